use Rattle.std.proofs.Common.{◌≡◌, ◌+◌, ◌-◌, ◌≤◌, drop, take}
use Rattle.std.specs.Prelude.{slice_range}
use Rattle.std.specs.List.{common_prefix_len}
use Rattle.std.specs.Ordering.{int_eq}
use Rattle.nfg_strand.specs.Strand.{graphemes}
use Rattle.nfg_strand.proofs.search.common_front.Given as goal

-- all before is the same, and the answer goes on with what is left
abbrev pub invariant-loop-same : goal.invariant-loop-same
invariant-loop-same l = record {
  high : l.same ≤ l.count;
  left : l.rest ≡ drop (l.start + l.same) (graphemes l.strands);
  other_left : l.other ≡ drop (l.other_start + l.same) (graphemes l.others);
  passed : common_prefix_len int_eq (slice_range (graphemes l.strands) l.start (l.start + l.count))
      (slice_range (graphemes l.others) l.other_start (l.other_start + l.count))
      ≡ l.same + common_prefix_len int_eq (take (l.count - l.same) l.rest) (take (l.count - l.same) l.other);
}

abbrev pub decreases-loop-same : goal.decreases-loop-same
decreases-loop-same l = l.count - l.same
