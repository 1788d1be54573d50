use Rattle.std.proofs.Common.{refl}
use Rattle.nfg_script.specs.declared.command.Command.TheVariants.{Find}
use Rattle.nfg_work.specs.declared.outcome.Outcome.TheVariants.{Found}
use Rattle.nfg_work.proofs.JobsDone.{asked_done}
use Rattle.nfg_work.proofs.job.find.Goals as goal

pub index-requires-clause-string_known : goal.index-requires-clause-string_known
index-requires-clause-string_known g c κs within =
    let string = c.in-Some.ensures (g.T.Synthetics.seen c.args.pass.now).known c.requires.outcomes in (string.value.clusters, string.is.represents)

pub index-requires-clause-needle_known : goal.index-requires-clause-needle_known
index-requires-clause-needle_known g c κs within =
    let string = c.in-Some-string_before.ensures (g.T.Synthetics.seen c.args.pass.now).known c.requires.outcomes in (string.value.clusters, string.is.represents)

pub returns : goal.returns
returns g c = λ numbered here command.
    let known = (g.T.Synthetics.seen c.args.pass.now).known in
    let string = c.in-Some.ensures known c.requires.outcomes in
    let part = c.in-Some-string_before.ensures known c.requires.outcomes in
    asked_done c.args.work.script.now c.args.work.reads.now c.args.k numbered (Find c.args.a c.args.b c.args.at) known known (Found c.index.result) here command (λ j. refl) (
      string.value,
      part.value,
      string.has,
      part.has,
      c.index.ensures.place string.value.clusters part.value.clusters string.is.represents part.is.represents,
    )
