-- What one more step adds to the files that are generated.
use Rattle.std.proofs.Common.{◌≡◌, ℕ, suc, List, [], ◌∷◌, ◌++◌, flat_map, ap, ◌∙◌}
use Rattle.std.proofs.lemmas.Grind.{flat_map-append}
use Rattle.std.proofs.lemmas.List.{append-nil}
use Rattle.nfg_run.specs.Generator.{draws, draw_of, number_after}

-- the spelling of one more draw, in any code
pub drawn-next : (code spelling : ℕ → List ℕ) (seed k : ℕ)
    → flat_map code (flat_map spelling (draws seed (suc k)))
    ≡ flat_map code (flat_map spelling (draws seed k)) ++ flat_map code (spelling (draw_of (number_after seed (suc k))))
drawn-next code spelling seed k =
    let draw = draw_of (number_after seed (suc k)) in
    let before = flat_map spelling (draws seed k) in
    ap (flat_map code) (flat_map-append spelling (draws seed k) (draw ∷ []) ∙ ap (λ v. before ++ v) (append-nil (spelling draw)))
    ∙ flat_map-append code before (spelling draw)
