use Rattle.std.proofs.Common.{arith, refl, w32, pos, FitsSigned}
use Rattle.std.proofs.lemmas.Simd.{length-chunk}
use Rattle.nfg_lanes.proofs.MaskLemmas.{in_block, stops_at_other}
use Rattle.nfg_lanes.proofs.common.differ32_in.Goals as goal
use lib.Lanes.{chunk}

pub returns : goal.returns
returns c =
    let a = c.args.a.now in
    let b = c.args.b.now in
    let i = c.args.at in
    stops_at_other w32 (chunk i 16 a) (chunk i 16 b) _ _ 16 refl refl (length-chunk i 16 a c.requires.left) (length-chunk i 16 b c.requires.right) (omega arith)
    (in_block (FitsSigned w32) a i 16 (pos 0) c.requires.left c.read32.ensures)
    (in_block (FitsSigned w32) b i 16 (pos 0) c.requires.right c.read32-2.ensures)
