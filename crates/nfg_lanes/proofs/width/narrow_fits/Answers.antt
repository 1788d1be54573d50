use Rattle.std.proofs.Common.{◌≡◌, ◌&&◌, ◌*◌, ◌+◌, true, false, arith, ap, drop, sym, ◌∙◌}
use Rattle.std.specs.List.{list_all}
use Rattle.nfg_lanes.specs.Lanes.{is_narrow_grapheme}
use Rattle.nfg_lanes.proofs.NarrowLemmas.{narrow_blocks}
use Rattle.nfg_lanes.proofs.width.narrow_fits.Goals as goal
use lib.Lanes.{chunk}

pub returns-then-not-fits_in : goal.returns-then-not-fits_in
returns-then-not-fits_in c =
    let i = c.loop-block.block * 32 in
    let wide : list_all is_narrow_grapheme (chunk i 32 c.args.a.now) ≡ false = sym c.fits_in.ensures ∙ c.if-not-fits_in.true in
    sym (c.loop-block.invariant ∙ narrow_blocks i 32 c.args.a.now ∙ ap (λ b. b && list_all is_narrow_grapheme (drop (i + 32) c.args.a.now)) wide)

pub loop-block-preserved : goal.loop-block-preserved
loop-block-preserved c =
    let i = c.loop-block.block * 32 in
    let narrow : list_all is_narrow_grapheme (chunk i 32 c.args.a.now) ≡ true = sym c.fits_in.ensures ∙ c.if-not-fits_in.false in
    let next : i + 32 ≡ (c.loop-block.block + 1) * 32 = omega arith in
    c.loop-block.invariant ∙ narrow_blocks i 32 c.args.a.now ∙ ap (λ b. b && list_all is_narrow_grapheme (drop (i + 32) c.args.a.now)) narrow
    ∙ ap (λ m. list_all is_narrow_grapheme (drop m c.args.a.now)) next
