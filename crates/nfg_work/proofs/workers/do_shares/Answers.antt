use Rattle.std.proofs.Common.{◌≡◌, ◌<◌, [], length, slice_index_or, arith}
use Rattle.std.proofs.lemmas.List.Elements.{All-weaker}
use Rattle.nfg_work.specs.Outcomes.{AreRight}
use Rattle.nfg_work.specs.Workers.{IsReady}
use Rattle.nfg_work.proofs.MetWorkers.{ready_right, worked_done}
use Rattle.nfg_work.proofs.workers.do_shares.Goals as goal

pub do_together-requires-clause-fork_outcomes : goal.do_together-requires-clause-fork_outcomes
do_together-requires-clause-fork_outcomes g c κs within =
    let base = (g.T.Synthetics.seen c.args.pass.now).known in
    All-weaker (λ worker. IsReady base (g.T.Synthetics.seen worker.pass) worker.given.items)
    (λ worker. AreRight (g.T.Synthetics.seen worker.pass).known c.args.work.script.now c.args.work.reads.now c.args.work.outcomes.now)
    (λ worker ready. ready_right c.args.work.script.now c.args.work.reads.now base (g.T.Synthetics.seen worker.pass) worker.given.items c.args.work.outcomes.now
    c.requires.outcomes ready)
    c.args.others.now c.requires.ready

pub do_together-requires-clause-nothing : goal.do_together-requires-clause-nothing
do_together-requires-clause-nothing g c κs within =
    let base = (g.T.Synthetics.seen c.args.pass.now).known in
    All-weaker (λ worker. IsReady base (g.T.Synthetics.seen worker.pass) worker.given.items) (λ worker. worker.given.items ≡ [])
    (λ worker ready. ready.nothing) c.args.others.now c.requires.ready

pub returns-clause-done : goal.returns-clause-done
returns-clause-done g c = λ k d within.
    let inside : k < length c.args.others.now = omega (arith, within, c.do_together.ensures.many) in
    let old = slice_index_or c.args.others.now k d in
    let new = slice_index_or c.do_together.new.others k d in
    worked_done c.args.work.script.now c.args.work.reads.now (g.T.Synthetics.seen c.args.pass.now).known (g.T.Synthetics.seen old.pass) (g.T.Synthetics.seen new.pass)
    old.given.items new.given.items new.is_short (c.requires.ready k d inside) (c.do_together.ensures.worked k d inside)
