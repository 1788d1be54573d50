use Rattle.std.proofs.Common.{◌≡◌, ◌<◌, [], sym, subst, arith, rules}
use Rattle.nfg_work.specs.Outcomes.{AreRight}
use Rattle.nfg_work.proofs.workers.let_all_work.Goals as goal

pub for_each_mut-requires-clause-accepts : goal.for_each_mut-requires-clause-accepts
for_each_mut-requires-clause-accepts g c κs within = λ i p in_range is.
    let table = subst (λ worker. g.T.Synthetics.is_of c.args.table.now worker.pass) (sym is) (c.requires.tables i p.now in_range) in
    let outcomes = subst (λ worker. AreRight (g.T.Synthetics.seen worker.pass).known c.args.work.script.now c.args.work.reads.now c.args.work.outcomes.now) (sym is)
    (c.requires.outcomes i p.now in_range) in
    let given = subst (λ worker. worker.given.items ≡ []) (sym is) (c.requires.given i p.now in_range) in
    let number : i < 64 = omega (arith, in_range, c.requires.numbers) in
    (c.requires.jobs, (c.requires.some, (c.requires.few, (c.requires.reads, (c.requires.plan, (number, (table, (outcomes, (given, (search rules, search rules, search rules))))))))))
