use Rattle.std.proofs.Common.{◌≡◌, ◌≤◌, ◌<◌, ◌+◌, ℕ, false}
use Rattle.nfg_ops.specs.Places.{stand_at}
use Rattle.nfg_ops.proofs.occurrence.last_by_parts.Given as goal

-- the needle stands at none of the places behind
abbrev pub invariant-loop-end : goal.invariant-loop-end
invariant-loop-end l = record {
  high : l.end ≤ l.last + 1;
  some : 0 < l.part;
  none : (k : ℕ) → l.end ≤ k → k ≤ l.last → stand_at l.string.graphemes l.needle.graphemes k ≡ false;
}

abbrev pub decreases-loop-end : goal.decreases-loop-end
decreases-loop-end l = l.end
