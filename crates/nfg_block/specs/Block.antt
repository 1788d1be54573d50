-- A block of graphemes in cells of one width (this project's own).
use Rattle.std.specs.Prelude.{ℤ, Bool, List}
use Rattle.std.specs.List.{list_all}
use Rattle.nfg_lanes.specs.Lanes.{is_narrow_grapheme}

-- the graphemes of a block, in order, and whether their cells have 8 bits
pub record Graphemes : Type 0 where
  pub list : List ℤ
  pub is_narrow : Bool

-- the block of these graphemes: it is narrow just where each of them fits 8 bits
abbrev pub block_of : List ℤ → Graphemes
block_of graphemes = record { list = graphemes; is_narrow = list_all is_narrow_grapheme graphemes }
