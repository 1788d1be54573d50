-- The files of the system (this project's own). Their bytes aren't told.
use Rattle.std.specs.Prelude.{ℕ, Bool, List, Option}

-- what a contract sees of the files of the system
pub record FilesOfSystem : Type 0 where
  -- how many calls have failed; it stands still at 2 ^ 64 - 1
  pub faults : ℕ
  -- the path that was opened last, how many bytes of it were read, and whether a call on it has failed
  pub open_path : Option (List ℕ)
  pub position : ℕ
  pub broken : Bool
