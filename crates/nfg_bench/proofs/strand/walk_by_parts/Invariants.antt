use Rattle.std.proofs.Common.{◌≡◌, ◌+◌, ◌-◌, ◌≤◌, ◌^◌, length, not, int_eq, negsuc}
use Rattle.std.specs.List.{prefix_len}
use Rattle.nfg_bench.proofs.strand.walk_by_parts.Given as goal

abbrev pub invariant-loop-at : goal.invariant-loop-at
invariant-loop-at l = record {
  place : l.at + length l.left ≡ length l.string.graphemes;
  limit : length l.string.graphemes ≤ 2 ^ 40;
  rest :
      prefix_len (λ y. not (int_eq y (negsuc 0))) l.string.graphemes
      ≡ l.at + prefix_len (λ y. not (int_eq y (negsuc 0))) l.left;
}

abbrev pub decreases-loop-at : goal.decreases-loop-at
decreases-loop-at l = l.len - l.at
