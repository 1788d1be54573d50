use Rattle.std.proofs.Common.{◌≡◌, ℕ, List, map, not, leb, nat_lt, cond, arith, w8, ap, ◌∙◌, replicate, subst, ◌%◌, ◌^◌}
use Rattle.std.proofs.lemmas.List.{length-map}
use Rattle.std.proofs.lemmas.Simd.{length-chunk, tops_compared, zip2_splat_left, mask_l-mod}
use Rattle.std.specs.Char.{is_ascii}
use Rattle.nfg_lanes.specs.Stops.{StopsAfter}
use Rattle.nfg_lanes.proofs.MaskLemmas.{prefix_len-agree, stops_before}
use Rattle.nfg_lanes.proofs.ascii.others_in.Goals as goal
use lib.Lanes.{chunk, mask_l, top, zip2}

below_or_above : (x : ℕ) → not (leb 128 x) ≡ nat_lt x 128
below_or_above x = grind arith

-- the mask of the lanes that are 128 or above
abbrev other_mask : List ℕ → ℕ
other_mask lanes = mask_l (map (top 7) (zip2 (λ a b. cond (leb a b) 255 0) (replicate 32 128) lanes)) % 2 ^ 64

pub returns : goal.returns
returns c =
    let lanes = chunk c.args.at 32 c.args.bytes.now in
    let long = length-chunk c.args.at 32 c.args.bytes.now c.requires in
    let bits =
    ap (λ l. mask_l l % 2 ^ 64) (tops_compared w8 leb (replicate 32 128) lanes ∙ zip2_splat_left leb 128 32 lanes long)
    ∙ mask_l-mod _ 64 (omega (arith, length-map lanes (λ x. leb 128 x), long))
    in
    let run = prefix_len-agree (λ x. not (leb 128 x)) is_ascii 0 lanes (λ k inside. below_or_above _) in
    subst (λ r. StopsAfter r 32 (other_mask lanes)) run (stops_before (λ x. leb 128 x) lanes 32 (other_mask lanes) long (omega arith) bits)
