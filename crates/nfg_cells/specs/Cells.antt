-- What the pass of a `CellTable` holds, and what contracts see of it (this project's own).
use Rattle.std.specs.Prelude.{ℕ, Bool, List, length}
use Rattle.std.specs.declared.alloc.Global.{Global}
use Rattle.nfg_syn.specs.Known.{IsRowSize}
use Rattle.nfg_syn.specs.Refusal.{IsTableFull, NeverDrained}
use Rattle.nfg_syn.specs.Seen.{Seen}
use Rattle.nfg_cells.specs.declared.place.Place.{Place}
use Rattle.nfg_cells.specs.Notes.{AreFound, AreMarked, AreNotesOf, known_of, places_of}

-- the notes of a pass, whether `new` made it, and how many passes were forked from it and met in it
pub record CellNotes : Type 0 where
  pub notes : List Place
  pub root : Bool
  pub forks : ℕ
  pub meets : ℕ

-- The table refuses a text only where each place was seen to hold another one, and it has no chunks
-- that could be used up.
abbrev pub seen_of : CellNotes → Seen
seen_of pass = record {
  known = known_of pass.notes;
  places = places_of pass.notes;
  root = pass.root;
  forks = pass.forks;
  meets = pass.meets;
  full = IsTableFull (length pass.notes) (places_of pass.notes);
  drained = NeverDrained;
}

-- the pass is of the table that has these cells
pub record IsCellPass (cells : List (Global × ℕ)) (pass : CellNotes) : Type 0 where
  pub row_size : IsRowSize (length cells)
  pub notes : AreNotesOf cells pass.notes
  pub marked : AreMarked pass.notes
  pub found : AreFound (length cells) pass.notes
