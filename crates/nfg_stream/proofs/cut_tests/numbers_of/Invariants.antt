use Rattle.nfg_syn.specs.OwnTexts.{IsOwnPass}
use Rattle.nfg_stream.proofs.cut_tests.numbers_of.Given as goal

abbrev pub invariant-clusters : goal.invariant-clusters
invariant-clusters g l = IsOwnPass l.table l.pass
