-- The mask of a block of lanes in which some stop a run (this project's own).
use Rattle.std.specs.Prelude.{◌≡◌, ℕ, ◌<◌}
use Rattle.std.specs.Int.{trailing_zeros, w64}

-- bit k of the mask is set where lane k stops the run, which is as long as the lanes before the first such
pub record StopsAfter (run lanes mask : ℕ) : Type 0 where
  pub full : mask ≡ 0 → run ≡ lanes
  pub first : ¬ (mask ≡ 0) → trailing_zeros w64 mask ≡ run
  pub inside : ¬ (mask ≡ 0) → run < lanes
