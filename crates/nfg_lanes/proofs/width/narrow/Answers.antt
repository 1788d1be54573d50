use Rattle.std.proofs.Common.{arith, ◌*◌}
use Rattle.nfg_lanes.proofs.NarrowLemmas.{narrow_block}
use Rattle.nfg_lanes.proofs.WidthLemmas.{block_copied}
use Rattle.nfg_lanes.proofs.width.narrow.Goals as goal

pub narrow_in-requires-clause-fits : goal.narrow_in-requires-clause-fits
narrow_in-requires-clause-fits c = narrow_block (c.loop-block.block * 16) 16 c.args.a.now c.requires.fits

pub loop-block-preserved : goal.loop-block-preserved
loop-block-preserved c =
    block_copied c.args.a.now c.loop-block.into _ (c.loop-block.block * 16) 16 _ c.loop-block.invariant (omega arith) c.narrow_in.ensures (omega arith)
