-- A list with a way back (this project's own).
use Rattle.std.specs.Prelude.{ℕ, List}

-- the list as it is, and as it was when it was last marked
pub record Drafted : Type 0 where
  pub current : List ℕ
  pub marked : List ℕ
