use Rattle.nfg_work.proofs.MetWorkers.{nothing_right}
use Rattle.nfg_work.proofs.worker.do_own_share.Goals as goal

pub do_share-requires-clause-given : goal.do_share-requires-clause-given
do_share-requires-clause-given g c κs within =
    nothing_right c.args.work.script.now c.args.work.reads.now (g.T.Synthetics.seen c.args.pass.now).known c.new-given.result.items c.new-given.ensures.items
