use Rattle.std.proofs.Common.{arith, w8, pos, FitsSigned}
use Rattle.std.proofs.lemmas.Simd.{length-chunk}
use Rattle.nfg_lanes.proofs.MaskLemmas.{in_block, stops_at_equal}
use Rattle.nfg_lanes.proofs.first.equal8_in.Goals as goal
use lib.Lanes.{chunk}

pub returns : goal.returns
returns c =
    let a = c.args.a.now in
    let fits = in_block (FitsSigned w8) a c.args.at 32 (pos 0) c.requires c.read8.ensures in
    stops_at_equal w8 (chunk c.args.at 32 a) 32 c.args.x (length-chunk c.args.at 32 a c.requires) (omega arith) c.ranges.x fits
