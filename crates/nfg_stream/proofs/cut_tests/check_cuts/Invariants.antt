use Rattle.nfg_syn.specs.OwnTexts.{IsOwnPass}
use Rattle.nfg_stream.proofs.cut_tests.check_cuts.Given as goal

abbrev pub invariant-cuts : goal.invariant-cuts
invariant-cuts g l = IsOwnPass l.table l.pass
