use Rattle.std.proofs.Common.{arith, ◌*◌}
use Rattle.std.specs.Char.{is_ascii}
use Rattle.nfg_lanes.proofs.RunLemmas.{run_ends, run_fills}
use Rattle.nfg_lanes.proofs.ascii.ascii_run.Goals as goal

pub returns-then-others-ne0 : goal.returns-then-others-ne0
returns-then-others-ne0 c =
    let i = c.loop-block.block * 32 in
    run_ends is_ascii c.args.bytes.now i 32 c.others_in-others.result c.loop-block.invariant (omega arith) c.others_in-others.ensures c.if-others-ne0.true

pub loop-block-preserved : goal.loop-block-preserved
loop-block-preserved c =
    let i = c.loop-block.block * 32 in
    run_fills is_ascii c.args.bytes.now i 32 c.others_in-others.result _ c.loop-block.invariant (omega arith) c.others_in-others.ensures c.if-others-ne0.false (omega arith)
