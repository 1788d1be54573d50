-- Files that are opened and read one at a time (this project's own).
use Rattle.std.specs.Prelude.{◌≡◌, ◌↔◌, ℕ, ◌≤◌, Bool, true, List, [], length, take, drop, Option, Some, None, IsSome, IfSome}
use Rattle.nfg_io.specs.Causes.{Rose}

-- the bytes of each path that is there
abbrev pub Contents : Type 0
Contents = List ℕ → Option (List ℕ)

-- what a contract sees of an object that reads files
pub record FilesState : Type 0 where
  -- how many calls have failed; it stands still at 2 ^ 64 - 1
  pub faults : ℕ
  -- the path that was opened last, whether or not that went well
  pub open_path : Option (List ℕ)
  -- how many bytes of it were read since then
  pub position : ℕ
  -- a call on the open path has failed: its opening, or a read
  pub broken : Bool
  -- the bytes of each path, where they are told
  pub contents : Option Contents

-- the path is one of those that are there, where these are told
abbrev pub IsThere : Option Contents → List ℕ → Type 0
IsThere contents path = IfSome contents (λ bytes_of. IsSome (bytes_of path))

-- the bytes of the open path, where they are told
abbrev pub opened_bytes : Option Contents → Option (List ℕ) → Option (List ℕ)
opened_bytes None path = None
opened_bytes (Some bytes_of) None = None
opened_bytes (Some bytes_of) (Some path) = bytes_of path

-- the first `count` bytes of `into` are those of the file at the position, and there are none exactly at its end
pub record ReadsAt (file : List ℕ) (position count : ℕ) (into : List ℕ) : Type 0 where
  pub bytes : take count into ≡ take count (drop position file)
  pub within : count ≤ length (drop position file)
  pub end : (count ≡ 0) ↔ (drop position file ≡ [])

-- a call on the path has failed: the count rose, and the path is open and broken
pub record HasFailedAt (before after : FilesState) (path : List ℕ) : Type 0 where
  pub rose : Rose before.faults after.faults
  pub open_path : after.open_path ≡ Some path
  pub broken : after.broken ≡ true
