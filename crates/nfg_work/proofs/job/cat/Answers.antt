use Rattle.nfg_work.proofs.JobsDone.{cat_done}
use Rattle.nfg_work.proofs.job.cat.Goals as goal

pub string_of_both-requires-clause-left : goal.string_of_both-requires-clause-left
string_of_both-requires-clause-left g c κs within =
    let string = c.in-Some.ensures (g.T.Synthetics.seen c.args.pass.now).known c.requires.outcomes in (string.value.clusters, string.is.represents, string.in_nfg)

pub string_of_both-requires-clause-right : goal.string_of_both-requires-clause-right
string_of_both-requires-clause-right g c κs within =
    let string = c.in-Some-string_before.ensures (g.T.Synthetics.seen c.args.pass.now).known c.requires.outcomes in (string.value.clusters, string.is.represents, string.in_nfg)

pub returns-clause-done : goal.returns-clause-done
returns-clause-done g c = λ numbered name at command.
    cat_done c.args.work.script.now c.args.work.reads.now c.args.k name c.args.a c.args.b numbered (g.T.Synthetics.seen c.args.pass.now) (g.T.Synthetics.seen c.string_of_both.new.pass)
    c.in-Some.left.now c.in-Some-string_before.right.now c.string_of_both.result c.outcome_of.result at command
    (c.in-Some.ensures (g.T.Synthetics.seen c.args.pass.now).known c.requires.outcomes) (c.in-Some-string_before.ensures (g.T.Synthetics.seen c.args.pass.now).known c.requires.outcomes)
    c.string_of_both.ensures.made c.outcome_of.ensures
