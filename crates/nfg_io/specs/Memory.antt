-- Files and output in memory (this project's own).
use Rattle.std.specs.Prelude.{ℕ, ◌-◌, nat_lt, not, ◌&&◌, Bool, List, length, Option, Some, unwrap_or, []}
use Rattle.std.specs.Ordering.{nat_cmp}
use Rattle.std.specs.Cmp.Lexicographic.{slice_cmp}
use Rattle.std.specs.FinMap as map
use Rattle.nfg_io.specs.Files.{opened_bytes}
use Rattle.nfg_io.specs.Calls.{Calls, fails_next}

-- bytes by paths
abbrev pub Paths : Type 0
Paths = map.FinMap (slice_cmp nat_cmp) (List ℕ)

-- what a contract sees of files in memory
pub record FilesInMemory : Type 0 where
  -- the bytes of each path that is there
  pub files : Paths
  -- the most bytes that a read gives
  pub step : ℕ
  -- the path that was opened last, how many bytes of it were read, and whether a call on it has failed
  pub open_path : Option (List ℕ)
  pub position : ℕ
  pub broken : Bool
  -- the calls of `open` and `read`
  pub calls : Calls

-- an `open` goes well: the path is there, and the call isn't one of those that fail
abbrev pub opens : FilesInMemory → List ℕ → Bool
opens m path = not (fails_next m.calls) && map.contains_key m.files path

-- how many bytes of the open path weren't read yet
abbrev pub bytes_left : FilesInMemory → ℕ
bytes_left m = length (unwrap_or (opened_bytes (Some (map.get m.files)) m.open_path) []) - m.position

-- what a contract sees of output in memory
pub record SinkInMemory : Type 0 where
  -- the bytes taken so far
  pub taken : List ℕ
  -- the most bytes that a write takes
  pub step : ℕ
  -- the most bytes that are taken in all
  pub room : ℕ
  -- the calls of `write`
  pub calls : Calls

-- how many bytes the sink still has room for
abbrev pub room_left : SinkInMemory → ℕ
room_left m = m.room - length m.taken

-- a write goes well: there is room, and the call isn't one of those that fail
abbrev pub writes : SinkInMemory → Bool
writes m = not (fails_next m.calls) && nat_lt 0 (room_left m)
