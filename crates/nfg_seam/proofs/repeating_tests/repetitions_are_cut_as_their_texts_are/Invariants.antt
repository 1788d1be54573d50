use Rattle.nfg_syn.specs.OwnTexts.{IsOwnPass}
use Rattle.nfg_seam.proofs.repeating_tests.repetitions_are_cut_as_their_texts_are.Given as goal

abbrev pub invariant-loop-n : goal.invariant-loop-n
invariant-loop-n g l = IsOwnPass l.table l.pass

abbrev pub invariant-loop-text : goal.invariant-loop-text
invariant-loop-text g l = IsOwnPass l.table l.pass
