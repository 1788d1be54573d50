use Rattle.std.proofs.Common.{get_or, ap, ◌∙◌, map, to_z, w8, w32, pos, FitsSigned}
use Rattle.nfg_lanes.proofs.MaskLemmas.{in_block}
use Rattle.nfg_lanes.proofs.WidthLemmas.{cast_bits, cast_fits, fits_wider, read_back}
use Rattle.nfg_lanes.proofs.width.widen_in.Goals as goal
use lib.Lanes.{chunk, put_chunk}

pub overflow_cast-into : goal.overflow_cast-into
overflow_cast-into c =
    let zs = chunk c.args.at 16 c.args.a.now in
    let fits = in_block (FitsSigned w8) c.args.a.now c.args.at 16 (pos 0) c.requires.source c.read8.ensures in
    cast_fits w8 w32 zs fits (λ k inside. fits_wider (get_or zs k (pos 0)) (fits k inside))

pub returns : goal.returns
returns c =
    let zs = chunk c.args.at 16 c.args.a.now in
    let fits = in_block (FitsSigned w8) c.args.a.now c.args.at 16 (pos 0) c.requires.source c.read8.ensures in
    ap (put_chunk c.args.at c.args.into.now)
    (ap (map (to_z w32)) (cast_bits w8 w32 zs fits) ∙ read_back w32 zs (λ k inside. fits_wider (get_or zs k (pos 0)) (fits k inside)))
