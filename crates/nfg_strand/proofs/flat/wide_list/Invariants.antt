use Rattle.std.proofs.Common.{◌≡◌, take}
use Rattle.nfg_strand.specs.Strand.{graphemes}
use Rattle.nfg_strand.proofs.flat.wide_list.Given as goal

-- the graphemes of the strands so far
abbrev pub invariant-loop-strand : goal.invariant-loop-strand
invariant-loop-strand l = l.list.items ≡ graphemes (take l.strand-index l.strands)
