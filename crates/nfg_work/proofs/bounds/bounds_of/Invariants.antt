use Rattle.std.proofs.Common.{length}
use Rattle.nfg_work.proofs.CutPlaces.{AreSoFar}
use Rattle.nfg_work.proofs.bounds.bounds_of.Given as goal

abbrev pub invariant-cutting : goal.invariant-cutting
invariant-cutting l = AreSoFar (length l.bytes) l.bounds.items l.k l.last
