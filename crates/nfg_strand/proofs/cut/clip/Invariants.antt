use Rattle.std.proofs.Common.{◌≡◌, ◌≤◌, ◌++◌, length, drop}
use Rattle.std.specs.Prelude.{slice_range}
use Rattle.nfg_strand.specs.Pieces.{clipped}
use Rattle.nfg_strand.specs.Strand.{graphemes, pieces}
use Rattle.nfg_strand.proofs.cut.clip.Given as goal

-- the parts so far, and the clip of the strands that are left
abbrev pub invariant-loop-strand : goal.invariant-loop-strand
invariant-loop-strand l =
    let left = drop l.strand-index l.strands in
    record {
      ordered : l.from ≤ l.until;
      inside : l.until ≤ length (graphemes left);
      graphemes_so_far : graphemes l.parts.items ++ slice_range (graphemes left) l.from l.until ≡ slice_range (graphemes l.strands) l.start l.end;
      pieces_so_far : pieces l.parts.items ++ clipped (pieces left) l.from l.until ≡ clipped (pieces l.strands) l.start l.end;
    }
