-- Why a table of synthetics refuses a text (this project's own).
use Rattle.std.specs.Prelude.{◌≢◌, ℕ, ◌<◌, List, Some, IsSome}
use Rattle.nfg_syn.specs.Known.{Texts}

-- each of the table's places holds a text, and none of them holds t
pub record IsTableFull (size : ℕ) (places : Texts) (t : List ℕ) : Type 0 where
  pub taken : (k : ℕ) → k < size → IsSome (places k)
  pub absent : (k : ℕ) → places k ≢ Some t

-- the fact of a table that has no chunks, which is never drained
abbrev pub NeverDrained : Type 0
NeverDrained = ⊥
