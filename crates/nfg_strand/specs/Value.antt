-- What contracts see of a string (this project's own).
use Rattle.std.specs.Prelude.{ℤ, List}
use Rattle.nfg_strand.specs.declared.piece.Piece.{Piece}

-- its graphemes in order, and the pieces in which they stand
pub record Rope : Type 0 where
  pub graphemes : List ℤ
  pub pieces : List Piece
