use Rattle.std.proofs.Common.{arith, refl, w8, pos, FitsSigned}
use Rattle.std.proofs.lemmas.Simd.{length-chunk}
use Rattle.nfg_lanes.proofs.MaskLemmas.{in_block, stops_at_other}
use Rattle.nfg_lanes.proofs.common.differ8_in.Goals as goal
use lib.Lanes.{chunk}

pub returns : goal.returns
returns c =
    let a = c.args.a.now in
    let b = c.args.b.now in
    let i = c.args.at in
    stops_at_other w8 (chunk i 32 a) (chunk i 32 b) _ _ 32 refl refl (length-chunk i 32 a c.requires.left) (length-chunk i 32 b c.requires.right) (omega arith)
    (in_block (FitsSigned w8) a i 32 (pos 0) c.requires.left c.read8.ensures)
    (in_block (FitsSigned w8) b i 32 (pos 0) c.requires.right c.read8-2.ensures)
