use Rattle.std.proofs.Common.{◌≡◌, ◌≤◌, ◌<◌, ◌+◌, ◌-◌, ℕ, length, IfSome}
use Rattle.nfg_ops.specs.Cuts.{number_at}
use Rattle.nfg_ops.specs.Places.{stand_at, IsLastBetween}
use Rattle.nfg_ops.proofs.occurrence.last_between.Given as goal

-- what was found is the last of the places before, and the needle's known front stands here
abbrev pub invariant-loop-place : goal.invariant-loop-place
invariant-loop-place l = record {
  low : l.start ≤ l.place;
  found : IsLastBetween (stand_at l.string.graphemes l.needle.graphemes) l.start l.place l.found;
  inside : IfSome l.found (λ place. place < l.end);
  known_less : l.known < length l.needle.graphemes;
  known : (k : ℕ) → k < l.known → number_at l.needle.graphemes k ≡ number_at l.string.graphemes (l.place + k);
}

abbrev pub decreases-loop-place : goal.decreases-loop-place
decreases-loop-place l = l.end - l.place
