use Rattle.std.proofs.Common.{◌≡◌, ℕ, List, ◌++◌, length}
use Rattle.nfg_text.specs.Text.{IsText}
use Rattle.nfg_segment.specs.Follows.{Follows}
use Rattle.nfg_bench.proofs.segment.segment.Given as goal

abbrev pub invariant-loop-rest : goal.invariant-loop-rest
invariant-loop-rest l = record {
  text : IsText l.rest;
  front : List ℕ;
  parts : front ++ l.rest ≡ l.text;
  given : List (List ℕ);
  follows : Follows l.segmenter front given;
  count : length l.clusters.heads ≡ length given;
}

abbrev pub decreases-loop-rest : goal.decreases-loop-rest
decreases-loop-rest l = length l.rest
