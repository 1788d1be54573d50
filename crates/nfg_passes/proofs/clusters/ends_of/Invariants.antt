use Rattle.std.proofs.Common.{◌≡◌, ◌<◌, ◌++◌, length, take, drop}
use Rattle.nfg_passes.specs.Marks.{ends_from_marks, ends_of_marks}
use Rattle.nfg_passes.proofs.clusters.ends_of.Given as goal

abbrev pub invariant-loop-at : goal.invariant-loop-at
invariant-loop-at l = record {
  room : length l.ends ≡ length l.fn.ends;
  below : l.count < l.at;
  written : take l.count l.ends ++ ends_from_marks l.at (drop l.at l.marks) ≡ ends_of_marks l.marks;
}
