-- The rules as rows of bytes, one row for each id (this project's own).
use Rattle.std.specs.Prelude.{◌≡◌, ℕ, ◌+◌, ◌*◌, ◌%◌, ◌<◌, List, replicate, slice_index}
use Rattle.nfg_passes.specs.declared.rows.TheConstants.{ROWS}

-- the state after a state and a code point of the id, in the rows
unfoldable pub next_in_rows : ℕ → ℕ → ℕ
next_in_rows state id = slice_index ROWS (id % 128 * 32 + state)

-- 1 in the rows where a cluster ends between a text at the state and such a code point, and 0 elsewhere
unfoldable pub break_in_rows : ℕ → ℕ → ℕ
break_in_rows state id = slice_index ROWS (id % 128 * 32 + 16 + state)

-- a vector that holds a state in each of its 16 lanes
pub record HoldsState (lanes : List ℕ) (state : ℕ) : Type 0 where
  pub small : state < 16
  pub all : lanes ≡ replicate 16 state
