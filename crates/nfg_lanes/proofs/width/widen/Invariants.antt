use Rattle.std.proofs.Common.{◌*◌}
use Rattle.nfg_lanes.proofs.WidthLemmas.{IsCopiedTo}
use Rattle.nfg_lanes.proofs.width.widen.Given as goal

abbrev pub invariant-loop-block : goal.invariant-loop-block
invariant-loop-block l = IsCopiedTo l.a l.into (l.block * 16)

abbrev pub invariant-loop-at : goal.invariant-loop-at
invariant-loop-at l = IsCopiedTo l.a l.into l.at
