-- the step of the walk at this cluster
use Rattle.std.proofs.Common.{rules, ◌≡◌, ◌<◌, ◌∷◌, length, Some, w32, to_z, of_z, subst, sym, arith}
use Rattle.nfg_syn.specs.Represents.{spelling}
use Rattle.nfg_syn.specs.RepresentsLaws.{Represents-length, Represents-at}
use Rattle.nfg_ops.specs.Walk.{text_from, IsInside, steps_left}
use Rattle.nfg_ops.proofs.Walking.{text-past, cluster-length, cluster-at, inside-place, inside-next, text-next, steps-fewer}
use Rattle.nfg_ops.proofs.walk.next_code.Goals as goal

pub returns-then-at-len-clause-taken : goal.returns-then-at-len-clause-taken
returns-then-at-len-clause-taken g c = λ list represents.
    let long = Represents-length _ c.args.string.now.graphemes list represents in
    text-past list c.args.at.now.place c.args.at.now.offset (omega (arith, long, c.len.ensures.len, c.if-at-len.true))

pub get-number-requires : goal.get-number-requires
get-number-requires g c =
    let knows = g.met.T.Synthetics.knows c.args.table.now c.args.pass.now c.requires.table in
    let list = c.requires.known.0 in
    let represents = c.requires.known.1 in
    let high = inside-place _ _ _ knows c.args.string.now.graphemes list represents c.args.at.now (c.requires.inside list represents) in
    omega (arith, high, c.if-at-len.false, c.len.ensures.len)

pub code_at-code-requires-clause-known : goal.code_at-code-requires-clause-known
code_at-code-requires-clause-known g c κs within =
    let knows = g.met.T.Synthetics.knows c.args.table.now c.args.pass.now c.requires.table in
    let known = (g.T.Synthetics.seen c.args.pass.now).known in
    let numbers = c.args.string.now.graphemes in
    let at = c.args.at.now in
    let list = c.requires.known.0 in
    let represents = c.requires.known.1 in
    let high = inside-place _ _ _ knows numbers list represents at (c.requires.inside list represents) in
    let found = cluster-at _ _ _ knows numbers list represents at (c.requires.inside list represents) (omega (arith, high, c.if-at-len.false, c.len.ensures.len)) in
    let same : to_z w32 (of_z w32 c.get-number.result) ≡ c.get-number.result = search rules in
    let spells : spelling known (to_z w32 (of_z w32 c.get-number.result)) ≡ Some found.0 =
    subst (λ n. spelling known n ≡ Some found.0) (sym same) (Represents-at known numbers list represents at.place c.get-number.result found.0 c.get-number.ensures found.1) in
    (found.0, spells, found.2)

pub after-requires-clause-place : goal.after-requires-clause-place
after-requires-clause-place g c =
    let knows = g.met.T.Synthetics.knows c.args.table.now c.args.pass.now c.requires.table in
    let known = (g.T.Synthetics.seen c.args.pass.now).known in
    let numbers = c.args.string.now.graphemes in
    let at = c.args.at.now in
    let list = c.requires.known.0 in
    let represents = c.requires.known.1 in
    let high = inside-place _ _ _ knows numbers list represents at (c.requires.inside list represents) in
    omega (arith, high, c.if-at-len.false, c.len.ensures.len, c.len.ensures.limit)

pub after-requires-clause-offset : goal.after-requires-clause-offset
after-requires-clause-offset g c =
    let knows = g.met.T.Synthetics.knows c.args.table.now c.args.pass.now c.requires.table in
    let known = (g.T.Synthetics.seen c.args.pass.now).known in
    let numbers = c.args.string.now.graphemes in
    let at = c.args.at.now in
    let list = c.requires.known.0 in
    let represents = c.requires.known.1 in
    let high = inside-place _ _ _ knows numbers list represents at (c.requires.inside list represents) in
    let found = cluster-at _ _ _ knows numbers list represents at (c.requires.inside list represents) (omega (arith, high, c.if-at-len.false, c.len.ensures.len)) in
    omega (arith, found.2, (cluster-length _ _ _ knows numbers list represents at.place found.0 found.1).1)

pub returns-clause-inside : goal.returns-clause-inside
returns-clause-inside g c = λ list represents.
    let knows = g.met.T.Synthetics.knows c.args.table.now c.args.pass.now c.requires.table in
    let known = (g.T.Synthetics.seen c.args.pass.now).known in
    let numbers = c.args.string.now.graphemes in
    let at = c.args.at.now in
    let high = inside-place _ _ _ knows numbers list represents at (c.requires.inside list represents) in
    let found = cluster-at _ _ _ knows numbers list represents at (c.requires.inside list represents) (omega (arith, high, c.if-at-len.false, c.len.ensures.len)) in
    let same : to_z w32 (of_z w32 c.get-number.result) ≡ c.get-number.result = search rules in
    let spells : spelling known (to_z w32 (of_z w32 c.get-number.result)) ≡ Some found.0 =
    subst (λ n. spelling known n ≡ Some found.0) (sym same) (Represents-at known numbers list represents at.place c.get-number.result found.0 c.get-number.ensures found.1) in
    let last = c.code_at-code.ensures.is_last found.0 spells in
    subst (IsInside list) (sym c.after.ensures) (inside-next _ _ _ knows numbers list represents at found.0 c.code_at-code.result.1 found.1 found.2 last)

pub returns-clause-taken : goal.returns-clause-taken
returns-clause-taken g c = λ list represents.
    let knows = g.met.T.Synthetics.knows c.args.table.now c.args.pass.now c.requires.table in
    let known = (g.T.Synthetics.seen c.args.pass.now).known in
    let numbers = c.args.string.now.graphemes in
    let at = c.args.at.now in
    let high = inside-place _ _ _ knows numbers list represents at (c.requires.inside list represents) in
    let found = cluster-at _ _ _ knows numbers list represents at (c.requires.inside list represents) (omega (arith, high, c.if-at-len.false, c.len.ensures.len)) in
    let same : to_z w32 (of_z w32 c.get-number.result) ≡ c.get-number.result = search rules in
    let spells : spelling known (to_z w32 (of_z w32 c.get-number.result)) ≡ Some found.0 =
    subst (λ n. spelling known n ≡ Some found.0) (sym same) (Represents-at known numbers list represents at.place c.get-number.result found.0 c.get-number.ensures found.1) in
    let last = c.code_at-code.ensures.is_last found.0 spells in
    let code = c.code_at-code.ensures.code found.0 spells in
    subst (λ p. text_from list at ≡ c.code_at-code.result.0 ∷ text_from list p) (sym c.after.ensures)
    (text-next list at found.0 c.code_at-code.result.0 c.code_at-code.result.1 found.1 code last)

pub returns-clause-nearer : goal.returns-clause-nearer
returns-clause-nearer g c =
    let knows = g.met.T.Synthetics.knows c.args.table.now c.args.pass.now c.requires.table in
    let known = (g.T.Synthetics.seen c.args.pass.now).known in
    let numbers = c.args.string.now.graphemes in
    let at = c.args.at.now in
    let list = c.requires.known.0 in
    let represents = c.requires.known.1 in
    let high = inside-place _ _ _ knows numbers list represents at (c.requires.inside list represents) in
    let found = cluster-at _ _ _ knows numbers list represents at (c.requires.inside list represents) (omega (arith, high, c.if-at-len.false, c.len.ensures.len)) in
    let few : at.offset < 1024 = omega (arith, found.2, (cluster-length _ _ _ knows numbers list represents at.place found.0 found.1).1) in
    subst (λ p. steps_left (length numbers) p < steps_left (length numbers) at) (sym c.after.ensures)
    (steps-fewer (length numbers) at c.code_at-code.result.1 (omega (arith, high, c.if-at-len.false, c.len.ensures.len)) few)
