use Rattle.nfg_script.specs.declared.command.Command.TheVariants.{Cmp}
use Rattle.nfg_work.specs.declared.outcome.Outcome.TheVariants.{Ordered}
use Rattle.nfg_work.proofs.JobsDone.{asked_done}
use Rattle.nfg_work.proofs.job.cmp.Goals as goal

pub compare-requires-clause-left : goal.compare-requires-clause-left
compare-requires-clause-left g c κs within =
    let string = c.in-Some.ensures (g.T.Synthetics.seen c.args.pass.now).known c.requires.outcomes in (string.value.clusters, string.is.represents, string.in_nfg)

pub compare-requires-clause-right : goal.compare-requires-clause-right
compare-requires-clause-right g c κs within =
    let string = c.in-Some-string_before.ensures (g.T.Synthetics.seen c.args.pass.now).known c.requires.outcomes in (string.value.clusters, string.is.represents, string.in_nfg)

pub returns-clause-done : goal.returns-clause-done
returns-clause-done g c = λ numbered here command.
    let known = (g.T.Synthetics.seen c.args.pass.now).known in
    let left = c.in-Some.ensures known c.requires.outcomes in
    let right = c.in-Some-string_before.ensures known c.requires.outcomes in
    asked_done c.args.work.script.now c.args.work.reads.now c.args.k numbered (Cmp c.args.a c.args.b) known (g.T.Synthetics.seen c.compare.new.pass).known (Ordered c.compare.result) here command
    c.compare.ensures.known (
      left.value,
      right.value,
      left.has,
      right.has,
      c.compare.ensures.order left.value.clusters right.value.clusters left.is.represents right.is.represents,
    )
