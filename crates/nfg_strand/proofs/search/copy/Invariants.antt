use Rattle.std.proofs.Common.{◌≡◌, ◌+◌, ◌-◌, ◌≤◌, drop, take, length}
use Rattle.nfg_strand.specs.Strand.{graphemes}
use Rattle.nfg_strand.proofs.search.copy.Given as goal

-- what is before the place is copied
abbrev pub invariant-loop-at : goal.invariant-loop-at
invariant-loop-at l = record {
  high : l.at ≤ length l.into;
  left : l.rest ≡ drop (l.start + l.at) (graphemes l.strands);
  copied : take l.at l.into ≡ take l.at (drop l.start (graphemes l.strands));
}

abbrev pub decreases-loop-at : goal.decreases-loop-at
decreases-loop-at l = length l.into - l.at
