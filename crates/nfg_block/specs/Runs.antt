-- What is left of a range of a block (this project's own).
use Rattle.std.specs.Prelude.{⊤, ◌≡◌, ℤ, List, true}
use Rattle.std.specs.List.{list_all}
use Rattle.nfg_lanes.specs.Lanes.{is_narrow_grapheme}
use Rattle.nfg_block.specs.declared.run.RunCells.{RunCells}
use Rattle.nfg_block.specs.declared.run.RunCells.TheVariants.{Narrow, Wide}

-- the graphemes that the cells hold
abbrev pub left_in : RunCells → List ℤ
left_in (Narrow cells) = cells.now
left_in (Wide cells) = cells.now

-- those in 8 bits are graphemes that fit them
abbrev pub DoFit : RunCells → Type 0
DoFit (Narrow cells) = list_all is_narrow_grapheme cells.now ≡ true
DoFit (Wide cells) = ⊤
