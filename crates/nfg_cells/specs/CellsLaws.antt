-- What the pass of a `CellTable` holds is knowledge, as the trait `Synthetics` asks.
use Rattle.std.proofs.Common.{ℕ, List, length, subst}
use Rattle.std.specs.declared.alloc.Global.{Global}
use Rattle.nfg_syn.specs.Known.{IsKnowledge, IsRowSize}
use Rattle.nfg_syn.specs.Refusal.{IsTableFull}
use Rattle.nfg_cells.specs.Notes.{known_of, places_of}
use Rattle.nfg_cells.specs.NotesLaws.{knowledge_of}
use Rattle.nfg_cells.specs.Cells.{CellNotes, IsCellPass}

-- the row of a pass's table has a lawful length
pub row_size_of : (cells : List (Global × ℕ)) (pass : CellNotes) → IsCellPass cells pass → IsRowSize (length cells)
row_size_of cells pass is = is.row_size

-- what a pass of the table knows is knowledge
pub knows_of : (cells : List (Global × ℕ)) (pass : CellNotes) → IsCellPass cells pass
    → IsKnowledge (length cells) (known_of pass.notes) (places_of pass.notes)
knows_of cells pass is = knowledge_of (length cells) pass.notes is.notes.as_many is.found

-- the row is full where all places that the pass has seen hold other texts
pub full_of : (cells : List (Global × ℕ)) (pass : CellNotes) (t : List ℕ) → IsCellPass cells pass
    → IsTableFull (length pass.notes) (places_of pass.notes) t → IsTableFull (length cells) (places_of pass.notes) t
full_of cells pass t is full = let P : ℕ → Type 0 = λ n. IsTableFull n (places_of pass.notes) t in subst P is.notes.as_many full
