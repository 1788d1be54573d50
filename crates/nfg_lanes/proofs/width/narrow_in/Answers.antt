use Rattle.std.proofs.Common.{ℕ, ◌<◌, length, get_or, ap, ◌∙◌, map, to_z, w8, w32, pos, FitsSigned}
use Rattle.nfg_lanes.proofs.NarrowLemmas.{fits_narrow, narrow_at}
use Rattle.nfg_lanes.proofs.WidthLemmas.{cast_bits, cast_fits, fits_wider, read_back}
use Rattle.nfg_lanes.proofs.width.narrow_in.Goals as goal
use lib.Lanes.{chunk, put_chunk}

pub overflow_cast-into : goal.overflow_cast-into
overflow_cast-into c =
    let zs = chunk c.args.at 16 c.args.a.now in
    let fits : (k : ℕ) → k < length zs → FitsSigned w8 (get_or zs k (pos 0)) = λ k inside. fits_narrow (get_or zs k (pos 0)) (narrow_at zs c.requires.fits k inside) in
    cast_fits w32 w8 zs (λ k inside. fits_wider (get_or zs k (pos 0)) (fits k inside)) fits

pub returns : goal.returns
returns c =
    let zs = chunk c.args.at 16 c.args.a.now in
    let fits : (k : ℕ) → k < length zs → FitsSigned w8 (get_or zs k (pos 0)) = λ k inside. fits_narrow (get_or zs k (pos 0)) (narrow_at zs c.requires.fits k inside) in
    ap (put_chunk c.args.at c.args.into.now)
    (ap (map (to_z w8)) (cast_bits w32 w8 zs (λ k inside. fits_wider (get_or zs k (pos 0)) (fits k inside))) ∙ read_back w8 zs fits)
