use Rattle.nfg_syn.specs.OwnTexts.{IsOwnPass}
use Rattle.nfg_stream.proofs.cut_tests.hard_texts_have_their_graphemes_at_every_cut.Given as goal

abbrev pub invariant-rows : goal.invariant-rows
invariant-rows g l = IsOwnPass l.table l.pass

abbrev pub invariant-encodings : goal.invariant-encodings
invariant-encodings g l = IsOwnPass l.table l.pass
