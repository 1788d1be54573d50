use Rattle.std.proofs.Common.{◌≡◌}
use Rattle.nfg_cells.proofs.JoinLemmas.{AreJoined}
use Rattle.nfg_cells.proofs.meet.join_all.Given as goal

abbrev pub invariant-loop-k : goal.invariant-loop-k
invariant-loop-k l = record {
  from : l.from ≡ l.fn.from;
  joined : AreJoined l.cells l.fn.into l.fn.from l.into l.k;
}
