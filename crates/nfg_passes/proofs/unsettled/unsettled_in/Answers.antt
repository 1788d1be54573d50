use Rattle.std.proofs.Common.{ap, ap₂, sym, ◌∙◌, ◌-◌, ◌%◌, ◌^◌, arith, leb, ltb, List, ℕ, Bool, replicate, w8}
use Rattle.std.proofs.lemmas.Simd.{length-chunk, length-zip2, tops_compared, mask_l-mod}
use Rattle.nfg_passes.specs.Unsettled.{is_unsettled}
use Rattle.nfg_passes.proofs.LaneFacts.{greater_lanes, marks_of_block}
use Rattle.nfg_passes.proofs.unsettled.unsettled_in.Goals as goal
use lib.Lanes.{chunk, mask_l, sel_l, zip2}

pub returns : goal.returns
returns c =
    let ids = c.args.ids.now in
    let at = c.args.at in
    let here = chunk at 32 ids in
    let before = chunk (at - 1) 32 ids in
    let here_long = length-chunk at 32 ids c.requires.room in
    let before_long = length-chunk (at - 1) 32 ids (omega (arith, c.requires.room, c.requires.follows)) in
    let same = before_long ∙ sym here_long in
    let left : List Bool → List Bool → List ℕ = λ doubtful marks. sel_l doubtful (replicate 32 1) (sel_l marks before (replicate 32 0)) in
    let right : List Bool → List ℕ = λ doubtful. sel_l doubtful (replicate 32 0) here in
    ap (λ l. mask_l l % 2 ^ 64)
    (tops_compared w8 ltb (right _) (left _ _)
    ∙ ap₂ (λ doubtful marks. zip2 ltb (right doubtful) (left doubtful marks)) (tops_compared w8 leb (replicate 32 71) here) (tops_compared w8 leb (replicate 32 18) here)
    ∙ ap (λ n. zip2 ltb (sel_l (zip2 leb (replicate n 71) here) (replicate n 0) here) (sel_l (zip2 leb (replicate n 71) here) (replicate n 1) (sel_l (zip2 leb (replicate n 18) here) before (replicate n 0)))) (sym here_long)
    ∙ greater_lanes before here same)
    ∙ mask_l-mod (zip2 is_unsettled before here) 64 (omega (arith, length-zip2 is_unsettled before here same, before_long))
    ∙ ap mask_l (marks_of_block ids at 32 c.requires.follows)
