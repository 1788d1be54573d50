-- no graphemes are those of the text without code points
use Rattle.std.proofs.Common.{◌≡◌, ℕ, List, [], ℤ, sym, subst}
use Rattle.nfg_text.specs.Graphemes.{IsInNfg, graphemes_of}
use Rattle.nfg_text.proofs.Proved.{graphemes_are_in_nfg, parts_are_in_nfg}
use Rattle.nfg_syn.specs.OwnTexts.{known_of}
use Rattle.nfg_syn.specs.Represents.{AreGraphemes}
use Rattle.nfg_ops.proofs.tests.a_string_without_graphemes_is_itself.Goals as goal

none_in_nfg : IsInNfg []
none_in_nfg = (parts_are_in_nfg [] (graphemes_of []) (graphemes_are_in_nfg [])).0

none_graphemes : (texts : List (List ℕ)) (numbers : List ℤ) → numbers ≡ [] → AreGraphemes (known_of texts) numbers
none_graphemes texts numbers is = subst (AreGraphemes (known_of texts)) (sym is) ([], tt, none_in_nfg)

pub equal-same-requires-clause-left : goal.equal-same-requires-clause-left
equal-same-requires-clause-left g c κs = none_graphemes c.in_ok-table.pass.texts c.empty-none.result.graphemes c.empty-none.ensures.graphemes

pub equal-same-requires-clause-right : goal.equal-same-requires-clause-right
equal-same-requires-clause-right g c κs = none_graphemes c.in_ok-table.pass.texts c.empty-none.result.graphemes c.empty-none.ensures.graphemes

pub compare-order-requires-clause-left : goal.compare-order-requires-clause-left
compare-order-requires-clause-left g c κs = none_graphemes c.in_ok-table.pass.texts c.empty-none.result.graphemes c.empty-none.ensures.graphemes

pub compare-order-requires-clause-right : goal.compare-order-requires-clause-right
compare-order-requires-clause-right g c κs = none_graphemes c.in_ok-table.pass.texts c.empty-none.result.graphemes c.empty-none.ensures.graphemes
