use Rattle.std.proofs.Common.{◌≡◌, take}
use Rattle.nfg_cells.proofs.meet.copied.Given as goal

abbrev pub invariant-loop-k : goal.invariant-loop-k
invariant-loop-k l = record {
  same : l.notes ≡ l.fn.notes;
  copied : l.copy.items ≡ take l.k l.fn.notes;
}
