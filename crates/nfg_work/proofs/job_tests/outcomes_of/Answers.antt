use Rattle.std.proofs.Common.{◌∙◌, sym, subst}
use Rattle.nfg_syn.specs.OwnTexts.{IsOwnPass, known_of}
use Rattle.nfg_work.proofs.RightOutcomes.{AreRight-none, AreRight-grows, AreRight-set}
use Rattle.nfg_work.proofs.job_tests.outcomes_of.Goals as goal

pub jobs-init : goal.jobs-init
jobs-init c = (
  subst (λ size. IsOwnPass size c.in_ok-table.pass) (sym c.in_ok-table.ensures.table) c.in_ok-table.ensures.pass,
  AreRight-none (known_of c.in_ok-table.pass.texts) c.args.script.now c.args.reads.now c.in_ok-outcomes.outcomes.items
      (c.in_ok-outcomes.ensures.many ∙ c.len.ensures) c.in_ok-outcomes.ensures.nothing,
)

pub jobs-preserved : goal.jobs-preserved
jobs-preserved c =
    let known = known_of c.do_job.new.pass.texts in
    let outcomes = c.jobs.outcomes.items in
    let done = c.in_ok-outcome.ensures in (
      done.table,
      AreRight-set known c.args.script.now c.args.reads.now outcomes c.jobs.k c.in_ok-outcome.outcome
          (AreRight-grows (known_of c.jobs.pass.texts) known done.keeps.known c.args.script.now c.args.reads.now outcomes c.jobs.invariant.1)
          done.right,
    )
