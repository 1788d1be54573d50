use Rattle.std.proofs.Common.{◌≡◌, ◌++◌, ℤ, List, length}
use Rattle.nfg_strand.proofs.flat.push_widened.Given as goal

-- a front was added
abbrev pub invariant-parts : goal.invariant-parts
invariant-parts l = record {
  front : List ℤ;
  joined : front ++ l.rest ≡ l.cells;
  added : l.into.items ≡ l.initial.into.items ++ front;
}

abbrev pub decreases-parts : goal.decreases-parts
decreases-parts l = length l.rest
