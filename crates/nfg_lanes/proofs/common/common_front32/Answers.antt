use Rattle.std.proofs.Common.{int_eq, arith, ◌*◌}
use Rattle.nfg_lanes.proofs.FrontLemmas.{front_complete, front_ends, front_fills}
use Rattle.nfg_lanes.proofs.common.common_front32.Goals as goal

pub returns-then-differ-ne0 : goal.returns-then-differ-ne0
returns-then-differ-ne0 c =
    let i = c.loop-block.block * 16 in
    front_ends int_eq c.args.a.now c.args.b.now i 16 c.differ32_in-differ.result c.loop-block.invariant (omega arith) (omega arith) c.differ32_in-differ.ensures c.if-differ-ne0.true

pub loop-block-preserved : goal.loop-block-preserved
loop-block-preserved c =
    let i = c.loop-block.block * 16 in
    front_fills int_eq c.args.a.now c.args.b.now i 16 _ c.loop-block.invariant (omega arith) (omega arith) (c.differ32_in-differ.ensures.full c.if-differ-ne0.false) (omega arith)

pub returns-after-loop-at : goal.returns-after-loop-at
returns-after-loop-at c =
    front_complete int_eq c.args.a.now c.args.b.now c.loop-at.at c.min-len.result c.loop-at.invariant c.min-len.ensures (omega (arith, c.loop-at-test.false))
