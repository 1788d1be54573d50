use Rattle.std.proofs.Common.{◌≡◌, ◌≤◌, length, drop}
use Rattle.nfg_strand.specs.Strand.{graphemes}
use Rattle.nfg_strand.proofs.place.Place.from.Given as goal

-- what is left to skip lies in the strands that are left
abbrev pub invariant-loop-first : goal.invariant-loop-first
invariant-loop-first l = record {
  inside : l.left ≤ length (graphemes (drop l.first l.strands));
  rest : drop l.left (graphemes (drop l.first l.strands)) ≡ drop l.skip (graphemes l.strands);
}
