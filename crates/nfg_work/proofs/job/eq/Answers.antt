use Rattle.std.proofs.Common.{refl}
use Rattle.nfg_script.specs.declared.command.Command.TheVariants.{Eq}
use Rattle.nfg_work.specs.declared.outcome.Outcome.TheVariants.{Compared}
use Rattle.nfg_work.proofs.Answered.{same_truth}
use Rattle.nfg_work.proofs.JobsDone.{asked_done}
use Rattle.nfg_work.proofs.job.eq.Goals as goal

pub equal-requires-clause-left : goal.equal-requires-clause-left
equal-requires-clause-left g c κs within =
    let string = c.in-Some.ensures (g.T.Synthetics.seen c.args.pass.now).known c.requires.outcomes in (string.value.clusters, string.is.represents, string.in_nfg)

pub equal-requires-clause-right : goal.equal-requires-clause-right
equal-requires-clause-right g c κs within =
    let string = c.in-Some-string_before.ensures (g.T.Synthetics.seen c.args.pass.now).known c.requires.outcomes in (string.value.clusters, string.is.represents, string.in_nfg)

pub returns : goal.returns
returns g c = λ numbered here command.
    let known = (g.T.Synthetics.seen c.args.pass.now).known in
    let left = c.in-Some.ensures known c.requires.outcomes in
    let right = c.in-Some-string_before.ensures known c.requires.outcomes in
    asked_done c.args.work.script.now c.args.work.reads.now c.args.k numbered (Eq c.args.a c.args.b) known known (Compared c.equal.result) here command (λ j. refl) (
      left.value,
      right.value,
      left.has,
      right.has,
      same_truth c.equal.result _ _ (c.equal.ensures.equivalent left.value.clusters right.value.clusters left.is.represents right.is.represents),
    )
