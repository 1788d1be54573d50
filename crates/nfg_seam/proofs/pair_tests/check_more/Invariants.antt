use Rattle.nfg_syn.specs.OwnTexts.{IsOwnPass}
use Rattle.nfg_seam.proofs.pair_tests.check_more.Given as goal

abbrev pub invariant-rows : goal.invariant-rows
invariant-rows g l = IsOwnPass l.table l.pass
