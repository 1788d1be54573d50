use Rattle.std.proofs.Common.{◌≡◌, true, take}
use Rattle.std.specs.List.{list_all}
use Rattle.nfg_block.specs.Lanes.{is_narrow_grapheme}
use Rattle.nfg_strand.specs.Strand.{graphemes}
use Rattle.nfg_strand.proofs.flat.narrow_list.Given as goal

-- the graphemes of the strands so far, which fit
abbrev pub invariant-loop-strand : goal.invariant-loop-strand
invariant-loop-strand l = record {
  front : l.list.items ≡ graphemes (take l.strand-index l.strands);
  fit : list_all is_narrow_grapheme l.list.items ≡ true;
}
