-- How a block keeps its graphemes (this project's own).
use Rattle.std.specs.Prelude.{◌≡◌, true, false}
use Rattle.std.specs.List.{list_all}
use Rattle.nfg_lanes.specs.Lanes.{is_narrow_grapheme}
use Rattle.nfg_block.specs.Block.{Graphemes}
use Rattle.nfg_block.specs.declared.block.Cells.{Cells}
use Rattle.nfg_block.specs.declared.block.Cells.TheVariants.{Narrow, Wide}

-- what the cells hold
abbrev pub graphemes_of : Cells → Graphemes
graphemes_of (Narrow cells) = record { list = cells.items; is_narrow = true }
graphemes_of (Wide cells) = record { list = cells.items; is_narrow = false }

-- they are of the least width that holds each grapheme
pub record AreOfLeastWidth (cells : Cells) : Type 0 where
  pub least : (graphemes_of cells).is_narrow ≡ list_all is_narrow_grapheme (graphemes_of cells).list
