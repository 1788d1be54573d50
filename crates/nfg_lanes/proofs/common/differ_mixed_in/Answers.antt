use Rattle.std.proofs.Common.{get_or, arith, refl, w8, w32, pos, FitsSigned}
use Rattle.std.proofs.lemmas.Simd.{length-chunk}
use Rattle.nfg_lanes.proofs.MaskLemmas.{in_block, stops_at_other}
use Rattle.nfg_lanes.proofs.WidthLemmas.{cast_bits, cast_fits, fits_wider}
use Rattle.nfg_lanes.proofs.common.differ_mixed_in.Goals as goal
use lib.Lanes.{chunk}

pub overflow_cast-wide : goal.overflow_cast-wide
overflow_cast-wide c =
    let us = chunk c.args.at 16 c.args.a.now in
    let fits = in_block (FitsSigned w8) c.args.a.now c.args.at 16 (pos 0) c.requires.left c.read8.ensures in
    cast_fits w8 w32 us fits (λ k inside. fits_wider (get_or us k (pos 0)) (fits k inside))

pub returns : goal.returns
returns c =
    let a = c.args.a.now in
    let b = c.args.b.now in
    let i = c.args.at in
    let us = chunk i 16 a in
    let fits = in_block (FitsSigned w8) a i 16 (pos 0) c.requires.left c.read8.ensures in
    stops_at_other w32 us (chunk i 16 b) _ _ 16 (cast_bits w8 w32 us fits) refl (length-chunk i 16 a c.requires.left) (length-chunk i 16 b c.requires.right) (omega arith)
    (λ k inside. fits_wider (get_or us k (pos 0)) (fits k inside))
    (in_block (FitsSigned w32) b i 16 (pos 0) c.requires.right c.read32.ensures)
