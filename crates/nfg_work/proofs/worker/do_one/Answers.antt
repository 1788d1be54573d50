use Rattle.std.proofs.Common.{◌++◌, ◌∷◌, [], sym, subst}
use Rattle.nfg_work.specs.declared.worker.Given.{Given}
use Rattle.nfg_work.specs.Workers.{HasGiven}
use Rattle.nfg_work.proofs.GivenOutcomes.{HasGiven-push}
use Rattle.nfg_work.proofs.worker.do_one.Goals as goal

pub returns-clause-given : goal.returns-clause-given
returns-clause-given g c =
    let script = c.args.work.script.now in
    let reads = c.args.work.reads.now in
    let old = (g.T.Synthetics.seen c.args.pass.now).known in
    let new = (g.T.Synthetics.seen c.do_job-done.new.pass).known in
    let one : Given = record { command = c.args.command; outcome = c.in_ok-outcome.outcome } in
    let before = c.args.given.now.items in
    subst (HasGiven script reads old new) {x = before ++ one ∷ []} (sym c.in_ok-push.ensures.items)
    (HasGiven-push script reads old new before one c.do_job-done.ensures.keeps.known
    (rw c.in_ok-outcome.was at c.do_job-done.ensures.grown) c.requires.given (rw c.in_ok-outcome.was at c.do_job-done.ensures.right))
