use Rattle.nfg_syn.specs.OwnTexts.{IsOwnPass}
use Rattle.nfg_stream.proofs.tests.check_marked.Given as goal

abbrev pub invariant-cuts : goal.invariant-cuts
invariant-cuts g l = IsOwnPass l.table l.pass
