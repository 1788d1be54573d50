-- The values of names, and their pieces over plain lists of clusters (this project's own).
use Rattle.std.specs.Prelude.{ℕ, ◌+◌, min, List, [], length}
use Rattle.nfg_text.specs.Operations.{concatenation, repetition, part_of}
use Rattle.nfg_strand.specs.declared.piece.Piece.{Piece}
use Rattle.nfg_strand.specs.Pieces.{clipped}
use Rattle.nfg_seam.specs.ClusterPieces.{flat_piece, at_most_64}
use Rattle.nfg_seam.specs.ConcatPieces.{concat_pieces, repetition_pieces}

-- what a name stands for: the clusters of its text, and the pieces in which they are kept
pub record Value : Type 0 where
  pub clusters : List (List ℕ)
  pub pieces : List Piece

-- the value of a name that no line defines
abbrev pub no_value : Value
no_value = record { clusters = []; pieces = [] }

-- clusters in one piece
abbrev pub flat : List (List ℕ) → Value
flat clusters = record { clusters = clusters; pieces = flat_piece clusters }

-- at most `count` clusters of a value from place `start` on
abbrev pub part : Value → (start count : ℕ) → Value
part value start count =
    let clusters = part_of value.clusters start count in
    let end = min (length value.clusters) (start + count) in
    record { clusters = clusters; pieces = at_most_64 clusters (clipped value.pieces start end) }

-- the graphemes of the joined text of two values
abbrev pub joined : Value → Value → Value
joined a b = record {
  clusters = concatenation a.clusters b.clusters;
  pieces = concat_pieces a.clusters b.clusters a.pieces b.pieces;
}

-- the graphemes of the text of a value, joined so often
abbrev pub repeated : Value → (count : ℕ) → Value
repeated value count = record {
  clusters = repetition value.clusters count;
  pieces = repetition_pieces value.clusters value.pieces count;
}
