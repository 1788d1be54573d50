use Rattle.std.proofs.Common.{arith, w32, pos, FitsSigned}
use Rattle.std.proofs.lemmas.Bool.{eq-eqb, eqb-true}
use Rattle.std.proofs.lemmas.Simd.{length-chunk}
use Rattle.nfg_lanes.proofs.MaskLemmas.{in_block, no_lane_differs}
use Rattle.nfg_lanes.proofs.common.equal32_at.Goals as goal
use lib.Lanes.{chunk}

pub returns : goal.returns
returns c =
    let a = c.args.a.now in
    let b = c.args.b.now in
    let i = c.args.a_at in
    let j = c.args.b_at in
    let both =
    no_lane_differs w32 (chunk i 16 a) (chunk j 16 b) 16 (length-chunk i 16 a c.requires.left) (length-chunk j 16 b c.requires.right) (omega arith)
    (in_block (FitsSigned w32) a i 16 (pos 0) c.requires.left c.read32.ensures)
    (in_block (FitsSigned w32) b j 16 (pos 0) c.requires.right c.read32-2.ensures)
    in
    (λ empty. both.0 (eqb-true _ 0 empty), λ equal. eq-eqb _ 0 (both.1 equal))
