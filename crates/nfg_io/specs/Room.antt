-- The room that output in memory has reserved (this project's own).
use Rattle.std.specs.Prelude.{ℕ, ◌≤◌}

pub record HasRoom (step taken room reserved : ℕ) : Type 0 where
  pub positive : 1 ≤ step
  pub within : taken ≤ room
  pub enough : room ≤ reserved
