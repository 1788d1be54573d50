use Rattle.nfg_syn.specs.OwnTexts.{IsOwnPass}
use Rattle.nfg_seam.proofs.tests.seams_are_repaired.Given as goal

abbrev pub invariant-rows : goal.invariant-rows
invariant-rows g l = IsOwnPass l.table l.pass
