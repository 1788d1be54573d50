use Rattle.std.proofs.Common.{arith, ◌*◌}
use Rattle.nfg_lanes.proofs.WidthLemmas.{block_copied}
use Rattle.nfg_lanes.proofs.width.widen.Goals as goal

pub loop-block-preserved : goal.loop-block-preserved
loop-block-preserved c =
    block_copied c.args.a.now c.loop-block.into _ (c.loop-block.block * 16) 16 _ c.loop-block.invariant (omega arith) c.widen_in.ensures (omega arith)
