use Rattle.std.proofs.Common.{◌≡◌, take}
use Rattle.nfg_strand.proofs.join.shared.Given as goal

-- the strands so far
abbrev pub invariant-loop-strand : goal.invariant-loop-strand
invariant-loop-strand l = l.same.items ≡ take l.strand-index l.strands
