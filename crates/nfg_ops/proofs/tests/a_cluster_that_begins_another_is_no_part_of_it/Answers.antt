-- CR LF is -1 in every table, and CR spells itself
use Rattle.std.proofs.Common.{◌≡◌, ℕ, List, [], ◌∷◌, ℤ, pos, negsuc, refl, sym, subst}
use Rattle.nfg_syn.specs.Known.{crlf}
use Rattle.nfg_syn.specs.OwnTexts.{known_of}
use Rattle.nfg_syn.specs.Represents.{AreKnown}
use Rattle.nfg_ops.proofs.tests.a_cluster_that_begins_another_is_no_part_of_it.Goals as goal

line_known : (texts : List (List ℕ)) (numbers : List ℤ) → numbers ≡ negsuc 0 ∷ [] → AreKnown (known_of texts) numbers
line_known texts numbers is = subst (AreKnown (known_of texts)) (sym is) (crlf ∷ [], (refl, tt))

start_known : (texts : List (List ℕ)) (numbers : List ℤ) → numbers ≡ pos 0xD ∷ [] → AreKnown (known_of texts) numbers
start_known texts numbers is = subst (AreKnown (known_of texts)) (sym is) ((0xD ∷ []) ∷ [], (refl, tt))

pub index-first-requires-clause-string_known : goal.index-first-requires-clause-string_known
index-first-requires-clause-string_known g c κs = line_known c.in_ok-table.pass.texts c.in_ok-line.line.graphemes c.in_ok-line.ensures.graphemes

pub index-first-requires-clause-needle_known : goal.index-first-requires-clause-needle_known
index-first-requires-clause-needle_known g c κs = start_known c.in_ok-table.pass.texts c.in_ok-start.start.graphemes c.in_ok-start.ensures.graphemes

pub rindex-last-requires-clause-string_known : goal.rindex-last-requires-clause-string_known
rindex-last-requires-clause-string_known g c κs = line_known c.in_ok-table.pass.texts c.in_ok-line.line.graphemes c.in_ok-line.ensures.graphemes

pub rindex-last-requires-clause-needle_known : goal.rindex-last-requires-clause-needle_known
rindex-last-requires-clause-needle_known g c κs = start_known c.in_ok-table.pass.texts c.in_ok-start.start.graphemes c.in_ok-start.ensures.graphemes

pub compare_from-order-requires-clause-left : goal.compare_from-order-requires-clause-left
compare_from-order-requires-clause-left g c κs = line_known c.in_ok-table.pass.texts c.in_ok-line.line.graphemes c.in_ok-line.ensures.graphemes

pub compare_from-order-requires-clause-right : goal.compare_from-order-requires-clause-right
compare_from-order-requires-clause-right g c κs = start_known c.in_ok-table.pass.texts c.in_ok-start.start.graphemes c.in_ok-start.ensures.graphemes
