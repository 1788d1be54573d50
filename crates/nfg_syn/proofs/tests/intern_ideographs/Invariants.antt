use Rattle.nfg_syn.specs.OwnTexts.{IsOwnPass}
use Rattle.nfg_syn.proofs.tests.intern_ideographs.Given as goal

abbrev pub invariant-loop-k : goal.invariant-loop-k
invariant-loop-k g l = IsOwnPass l.table l.pass
