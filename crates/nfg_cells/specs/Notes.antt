-- What the notes of a pass know of the cells of a table (this project's own).
use Rattle.std.specs.Prelude.{◌≡◌, ℕ, zero, suc, Bool, true, false, is_some, List, length, slice_get, Option, Some, None, if◌then◌else◌}
use Rattle.std.specs.declared.alloc.Global.{Global}
use Rattle.once_cell.specs.Once.{cell_name}
use Rattle.nfg_syn.specs.Known.{Texts, crlf}
use Rattle.nfg_cells.specs.declared.place.Cluster.{Cluster}
use Rattle.nfg_cells.specs.declared.place.Place.{Place}
use Rattle.nfg_cells.specs.Probe.{IsFound}

-- the text of a cluster that a note knows
abbrev pub text_of : Option Cluster → Option (List ℕ)
text_of (Some cluster) = Some cluster.codes.items
text_of None = None

-- the text seen at a place
abbrev pub seen_at : Option Place → Option (List ℕ)
seen_at (Some place) = text_of place.note.known
seen_at None = None

-- the texts seen at the places
abbrev pub places_of : List Place → Texts
places_of notes k = seen_at (slice_get notes k)

-- the pass has marked that it saw the text of a place
abbrev pub seen_flag : Option Place → Bool
seen_flag (Some place) = place.seen
seen_flag None = false

-- the pass has marked that it knows the number of a place
abbrev pub named_flag : Option Place → Bool
named_flag (Some place) = place.named
named_flag None = false

abbrev pub is_seen : List Place → ℕ → Bool
is_seen notes k = seen_flag (slice_get notes k)

abbrev pub is_named : List Place → ℕ → Bool
is_named notes k = named_flag (slice_get notes k)

-- CR LF is -1, and the text at place k is -(k + 2) where that number is known
abbrev pub known_of : List Place → Texts
known_of notes zero = Some crlf
known_of notes (suc k) = if is_named notes k then places_of notes k else None

-- both have the same marks
pub record HaveSameMarks (old new : List Place) : Type 0 where
  pub seen : (k : ℕ) → is_seen new k ≡ is_seen old k
  pub named : (k : ℕ) → is_named new k ≡ is_named old k

-- the places marked as seen are those whose text is known
abbrev pub AreMarked : List Place → Type 0
AreMarked notes = (k : ℕ) → is_seen notes k ≡ is_some (places_of notes k)

-- each note is of the cell at its place
pub record AreNotesOf (cells : List (Global × ℕ)) (notes : List Place) : Type 0 where
  pub as_many : length notes ≡ length cells
  pub each : (k : ℕ) (place : Place) (cell : Global × ℕ)
      → slice_get notes k ≡ Some place → slice_get cells k ≡ Some cell → place.note.cell ≡ cell_name cell

-- each number that is known is that of the place where a text is found
abbrev pub AreFound : ℕ → List Place → Type 0
AreFound n notes = (k : ℕ) → is_named notes k ≡ true → (t : List ℕ) × IsFound n (places_of notes) k t
