use Rattle.nfg_work.proofs.JobsDone.{rep_done}
use Rattle.nfg_work.proofs.job.rep.Goals as goal

pub string_of_copies-requires-clause-graphemes : goal.string_of_copies-requires-clause-graphemes
string_of_copies-requires-clause-graphemes g c κs within =
    let string = c.in-Some.ensures (g.T.Synthetics.seen c.args.pass.now).known c.requires.outcomes in (string.value.clusters, string.is.represents, string.in_nfg)

pub returns-clause-done : goal.returns-clause-done
returns-clause-done g c = λ numbered name at command.
    rep_done c.args.work.script.now c.args.work.reads.now c.args.k name c.args.a c.args.times numbered (g.T.Synthetics.seen c.args.pass.now) (g.T.Synthetics.seen c.string_of_copies.new.pass)
    c.in-Some.string.now c.string_of_copies.result c.outcome_of.result at command
    (c.in-Some.ensures (g.T.Synthetics.seen c.args.pass.now).known c.requires.outcomes) c.string_of_copies.ensures.made c.outcome_of.ensures
