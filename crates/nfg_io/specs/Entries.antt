-- Paths with their bytes, in the order in which they were added (this project's own).
use Rattle.std.specs.Prelude.{◌≡◌, ℕ, ◌<◌, ◌≤◌, List, [], length, Option, Some, slice_index_or, fold}
use Rattle.std.specs.FinMap as map
use Rattle.nfg_io.specs.Files.{opened_bytes}
use Rattle.nfg_io.specs.Memory.{Paths}

abbrev pub Entry : Type 0
Entry = List ℕ × List ℕ

-- the bytes by the paths, where a later entry replaces an earlier one of its path
abbrev pub paths_of : List Entry → Paths
paths_of entries = fold (λ files entry. map.insert files entry.0 entry.1) map.empty entries

-- the bytes of the entry at an index
abbrev pub bytes_at : List Entry → ℕ → List ℕ
bytes_at entries index = (slice_index_or entries index ([], [])).1

-- the open path has the bytes of the entry at the index, and the position is within them
pub record IsReading (entries : List Entry) (index position : ℕ) (open_path : Option (List ℕ)) : Type 0 where
  pub inside : index < length entries
  pub bytes : opened_bytes (Some (map.get (paths_of entries))) open_path ≡ Some (bytes_at entries index)
  pub within : position ≤ length (bytes_at entries index)
