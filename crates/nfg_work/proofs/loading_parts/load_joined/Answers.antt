use Rattle.std.proofs.Common.{◌≡◌, ◌+◌, ◌<◌, length, sym, ap, ◌∙◌, subst, arith}
use Rattle.std.specs.Prelude.{get_or}
use Rattle.std.proofs.lemmas.List.Elements.{All-same}
use Rattle.nfg_syn.specs.SeenLaws.{Keeps-trans}
use Rattle.nfg_work.specs.Parts.{part_at, IsOfParts, IsLoaded}
use Rattle.nfg_work.proofs.Growth.{growth_same, growth_then}
use Rattle.nfg_work.proofs.JoinedFile.{part_grows, IsLoaded-grows}
use Rattle.nfg_work.proofs.MetWorkers.{lent_back}
use Rattle.nfg_work.proofs.loading_parts.load_joined.Goals as goal

pub returns-in_err-first-clause-keeps : goal.returns-in_err-first-clause-keeps
returns-in_err-first-clause-keeps g c = Keeps-trans _ _ _ c.in_ok-others.ensures.keeps c.in_err-first.ensures.keeps

pub returns-in_err-first-clause-grown : goal.returns-in_err-first-clause-grown
returns-in_err-first-clause-grown g c =
    let parts = c.args.parts in
    let old = (g.T.Synthetics.seen c.args.pass.now).known in
    let forked = (g.T.Synthetics.seen c.new_loaders.new.pass).known in
    let shared = (g.T.Synthetics.seen c.load_all.new.pass).known in
    growth_then (IsOfParts parts.encoding parts.bytes.now) old forked shared
    (growth_same (IsOfParts parts.encoding parts.bytes.now) old forked c.in_ok-others.ensures.known)
    (part_grows parts.encoding parts.bytes.now parts.bounds.now 0 forked shared c.requires.bounds c.requires.bounds.some c.in_err-first.ensures.grown)

pub join_all-requires-clause-fork_tables : goal.join_all-requires-clause-fork_tables
join_all-requires-clause-fork_tables g c κs within =
    let others = c.in_ok-others.others in
    let as_many : length c.load_all.new.others ≡ length others.items = c.in_ok-first.ensures.many ∙ ap length c.as_mut_slice.ensures.value in
    let lent = lent_back others.len others.items c.load_all.new.others as_many (omega (arith, others.ok.0)) in
    All-same (λ loader. g.T.Synthetics.is_of c.args.table.now loader.pass) _ c.load_all.new.others lent c.in_ok-first.ensures.fork_tables

pub join_all-requires-clause-loaded : goal.join_all-requires-clause-loaded
join_all-requires-clause-loaded g c κs within = λ k d inside.
    let parts = c.args.parts in
    let others = c.in_ok-others.others in
    let forked = (g.T.Synthetics.seen c.new_loaders.new.pass).known in
    let shared = (g.T.Synthetics.seen c.load_all.new.pass).known in
    let as_many : length c.load_all.new.others ≡ length others.items = c.in_ok-first.ensures.many ∙ ap length c.as_mut_slice.ensures.value in
    let lent = lent_back others.len others.items c.load_all.new.others as_many (omega (arith, others.ok.0)) in
    let among : k < length c.as_mut_slice.result.now = omega (arith, inside, ap length c.as_mut_slice.ensures.value, others.ok.0) in
    let one = get_or c.load_all.new.others k d in
    subst (λ l. IsLoaded parts.encoding (part_at parts.bytes.now parts.bounds.now (k + 1)) shared (g.T.Synthetics.seen (get_or l k d).pass) (get_or l k d).string) (sym lent)
    (IsLoaded-grows parts.encoding (part_at parts.bytes.now parts.bounds.now (k + 1)) forked shared c.in_ok-first.ensures.keeps.known
    (g.T.Synthetics.seen one.pass) one.string (c.in_ok-first.ensures.loaded k d among))

pub returns-clause-keeps : goal.returns-clause-keeps
returns-clause-keeps g c =
    let old = g.T.Synthetics.seen c.args.pass.now in
    let forked = g.T.Synthetics.seen c.new_loaders.new.pass in
    let shared = g.T.Synthetics.seen c.load_all.new.pass in
    let new = g.T.Synthetics.seen c.join_all.new.pass in
    Keeps-trans old shared new (Keeps-trans old forked shared c.in_ok-others.ensures.keeps c.in_ok-first.ensures.keeps) c.join_all.ensures.keeps

pub returns-clause-grown : goal.returns-clause-grown
returns-clause-grown g c =
    let parts = c.args.parts in
    let old = (g.T.Synthetics.seen c.args.pass.now).known in
    let forked = (g.T.Synthetics.seen c.new_loaders.new.pass).known in
    let shared = (g.T.Synthetics.seen c.load_all.new.pass).known in
    let new = (g.T.Synthetics.seen c.join_all.new.pass).known in
    growth_then (IsOfParts parts.encoding parts.bytes.now) old shared new
    (growth_then (IsOfParts parts.encoding parts.bytes.now) old forked shared
    (growth_same (IsOfParts parts.encoding parts.bytes.now) old forked c.in_ok-others.ensures.known)
    (part_grows parts.encoding parts.bytes.now parts.bounds.now 0 forked shared c.requires.bounds c.requires.bounds.some c.in_ok-first.ensures.grown))
    c.join_all.ensures.grown
