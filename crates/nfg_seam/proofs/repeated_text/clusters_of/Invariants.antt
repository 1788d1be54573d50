use Rattle.std.proofs.Common.{◌≡◌, ℕ, List}
use Rattle.std.specs.List.{repeat}
use Rattle.nfg_segment.specs.Follows.{Follows}
use Rattle.nfg_segment.specs.Given.{nothing, with_clusters}
use Rattle.nfg_seam.proofs.repeated_text.clusters_of.Given as goal

abbrev pub invariant-copies : goal.invariant-copies
invariant-copies l = record {
  given : List (List ℕ);
  follows : Follows l.segmenter (repeat l._copy l.text) given;
  collected : l.clusters ≡ with_clusters nothing given;
}
