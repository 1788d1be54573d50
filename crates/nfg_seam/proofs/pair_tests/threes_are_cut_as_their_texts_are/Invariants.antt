use Rattle.nfg_syn.specs.OwnTexts.{IsOwnPass}
use Rattle.nfg_seam.proofs.pair_tests.threes_are_cut_as_their_texts_are.Given as goal

abbrev pub invariant-firsts : goal.invariant-firsts
invariant-firsts g l = IsOwnPass l.table l.pass

abbrev pub invariant-seconds : goal.invariant-seconds
invariant-seconds g l = IsOwnPass l.table l.pass
