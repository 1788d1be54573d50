use Rattle.std.proofs.Common.{◌≡◌, ◌≤◌, ◌<◌, ◌+◌, ◌-◌, ℕ, false, length}
use Rattle.nfg_ops.specs.Cuts.{number_at}
use Rattle.nfg_ops.specs.Places.{stand_at}
use Rattle.nfg_ops.proofs.occurrence.first_from.Given as goal

-- the needle stands at none of the places before, and its known front stands here
abbrev pub invariant-loop-place : goal.invariant-loop-place
invariant-loop-place l = record {
  low : l.from ≤ l.place;
  high : l.place ≤ length l.string.graphemes;
  none : (k : ℕ) → l.from ≤ k → k < l.place → stand_at l.string.graphemes l.needle.graphemes k ≡ false;
  known_less : l.known < length l.needle.graphemes;
  known : (k : ℕ) → k < l.known → number_at l.needle.graphemes k ≡ number_at l.string.graphemes (l.place + k);
}

abbrev pub decreases-loop-place : goal.decreases-loop-place
decreases-loop-place l = length l.string.graphemes - l.place
