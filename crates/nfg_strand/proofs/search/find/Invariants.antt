use Rattle.std.proofs.Common.{◌≡◌, ◌-◌, ◌≤◌, drop}
use Rattle.std.specs.Prelude.{slice_range}
use Rattle.std.specs.List.{position_from}
use Rattle.std.specs.Ordering.{int_eq}
use Rattle.nfg_strand.specs.Strand.{graphemes}
use Rattle.nfg_strand.proofs.search.find.Given as goal

-- the answer lies in what is left
abbrev pub invariant-loop-at : goal.invariant-loop-at
invariant-loop-at l = record {
  low : l.from ≤ l.at;
  high : l.at ≤ l.until;
  left : l.rest ≡ drop l.at (graphemes l.strands);
  passed : position_from (λ y. int_eq y l.fn.x) l.from (slice_range (graphemes l.strands) l.from l.until)
      ≡ position_from (λ y. int_eq y l.fn.x) l.at (slice_range (graphemes l.strands) l.at l.until);
}

abbrev pub decreases-loop-at : goal.decreases-loop-at
decreases-loop-at l = l.until - l.at
