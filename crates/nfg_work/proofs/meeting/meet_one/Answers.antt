use Rattle.nfg_work.proofs.MetWorkers.{met_right}
use Rattle.nfg_work.proofs.meeting.meet_one.Goals as goal

pub returns-in-Ok-clause-met : goal.returns-in-Ok-clause-met
returns-in-Ok-clause-met g c = λ script reads done are.
    met_right script reads (g.T.Synthetics.seen c.args.pass.now) (g.T.Synthetics.seen c.args.worker.pass) (g.T.Synthetics.seen c.meet.new.into)
    c.args.worker.given.items c.args.worker.is_short c.args.outcomes.now c.keep_all.new.outcomes c.in-Ok.ensures.keeps c.in-Ok.ensures.met
    c.if-is_short.false done are (c.keep_all.ensures (g.T.Synthetics.seen c.meet.new.into).known script reads)
