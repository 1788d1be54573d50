use Rattle.std.proofs.Common.{◌≡◌, true, ◌++◌, take, drop, reverse}
use Rattle.unicode_segmentation.specs.Grapheme.{is_grapheme_break}
use Rattle.nfg_text.specs.Breaks.{Remembers}
use Rattle.nfg_text.specs.Graphemes.{cluster_ends}
use Rattle.nfg_text.proofs.Places.{places}
use Rattle.nfg_text.proofs.breaks.cluster_ends.Given as goal

abbrev pub invariant-loop-i : goal.invariant-loop-i
invariant-loop-i l = record {
  remembers : Remembers l.memory (reverse (take l.i l.t));
  ends : l.ends.items ++ places (is_grapheme_break true) l.i (reverse (take l.i l.t)) (drop l.i l.t) ≡ cluster_ends l.t;
}
