use Rattle.std.proofs.Common.{◌≡◌}
use Rattle.nfg_syn.specs.OwnTexts.{IsOwnPass, known_of}
use Rattle.nfg_work.specs.Outcomes.{AreRight}
use Rattle.nfg_work.proofs.job_tests.outcomes_of.Given as goal

abbrev pub invariant-jobs : goal.invariant-jobs
invariant-jobs l = (IsOwnPass l.table l.pass) × AreRight (known_of l.pass.texts) l.script l.reads l.outcomes.items
