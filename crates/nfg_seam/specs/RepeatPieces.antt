-- The pieces of numbers that stand several times in a row (this project's own).
use Rattle.std.specs.Prelude.{ℕ, ◌*◌, ℤ, List, [], ◌∷◌, length}
use Rattle.nfg_strand.specs.declared.piece.Piece.{Piece}
use Rattle.nfg_strand.specs.Pieces.{piece_or_none, is_narrow}

-- a list in one piece keeps its unit, and else the whole list is the unit
abbrev pub again_pieces : List ℤ → List Piece → (count : ℕ) → List Piece
again_pieces numbers (piece ∷ []) count = record piece { times = piece.times * count } ∷ []
again_pieces numbers pieces count = piece_or_none (length numbers) count (is_narrow numbers)
