-- a negative number is asked of the table
use Rattle.std.proofs.Common.{rules, ◌≡◌, w32, to_z, of_z, ap, ◌∙◌}
use Rattle.nfg_syn.specs.Represents.{spelling}
use Rattle.nfg_seam.proofs.SeamReading.{negative-text, first-code, first-scalar, spelled-text}
use Rattle.nfg_seam.proofs.left_end.first_code.Goals as goal

pub code-requires-clause-known : goal.code-requires-clause-known
code-requires-clause-known g c =
    let knows = g.met.T.Synthetics.knows c.args.table.now c.args.pass.now c.requires.table in
    let known = (g.T.Synthetics.seen c.args.pass.now).known in
    let same : to_z w32 (of_z w32 c.args.n) ≡ c.args.n = search rules in
    let spells = ap (spelling known) same ∙ c.requires.known.1 in
    let found = negative-text _ _ _ knows (to_z w32 (of_z w32 c.args.n)) c.requires.known.0 c.if-n-ge0.false spells in
    (c.requires.known.0, found.0, found.1)

pub returns-clause-scalar : goal.returns-clause-scalar
returns-clause-scalar g c =
    let knows = g.met.T.Synthetics.knows c.args.table.now c.args.pass.now c.requires.table in
    let known = (g.T.Synthetics.seen c.args.pass.now).known in
    let same : to_z w32 (of_z w32 c.args.n) ≡ c.args.n = search rules in
    let text = c.requires.known.0 in
    let spells = ap (spelling known) same ∙ c.requires.known.1 in
    let found = negative-text _ _ _ knows (to_z w32 (of_z w32 c.args.n)) text c.if-n-ge0.false spells in
    let first = first-code known (to_z w32 (of_z w32 c.args.n)) text c.code.result found.0 c.code.ensures.code in
    first-scalar text c.code.result first.0 (spelled-text _ _ _ knows c.args.n text c.requires.known.1) first.1

pub returns-clause-first : goal.returns-clause-first
returns-clause-first g c = λ text e.
    let knows = g.met.T.Synthetics.knows c.args.table.now c.args.pass.now c.requires.table in
    let known = (g.T.Synthetics.seen c.args.pass.now).known in
    let same : to_z w32 (of_z w32 c.args.n) ≡ c.args.n = search rules in
    let found = negative-text _ _ _ knows (to_z w32 (of_z w32 c.args.n)) text c.if-n-ge0.false (ap (spelling known) same ∙ e) in
    first-code known (to_z w32 (of_z w32 c.args.n)) text c.code.result found.0 c.code.ensures.code
