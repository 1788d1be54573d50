use Rattle.nfg_syn.specs.OwnTexts.{IsOwnPass}
use Rattle.nfg_syn.proofs.tests.intern_marks.Given as goal

abbrev pub invariant-loop-mark : goal.invariant-loop-mark
invariant-loop-mark g l = IsOwnPass l.table l.pass
