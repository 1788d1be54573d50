use Rattle.nfg_syn.specs.OwnTexts.{IsOwnPass}
use Rattle.nfg_seam.proofs.pair_tests.pairs_are_cut_as_their_texts_are.Given as goal

abbrev pub invariant-rows : goal.invariant-rows
invariant-rows g l = IsOwnPass l.table l.pass
