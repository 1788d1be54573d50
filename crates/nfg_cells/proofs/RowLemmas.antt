-- The notes of a pass that has seen nothing, one cell after another.
use Rattle.std.proofs.Common.{◌≡◌, ◌≢◌, ℕ, zero, suc, ◌+◌, List, [], ◌∷◌, ◌++◌, length, slice_get, Some, None, false, is_some, refl, sym, ap, ◌∙◌, arith}
use Rattle.std.proofs.lemmas.Grind.{common_steps}
use Rattle.std.specs.declared.alloc.Global.{Global}
use Rattle.once_cell.specs.Once.{cell_name}
use mathlib.Core.Logic.{dite}
use native.Mathlib.Decide.{ℕ_discrete}
use Rattle.nfg_cells.specs.declared.place.Place.{Place}
use Rattle.nfg_cells.specs.Notes.{AreNotesOf, AreMarked, is_named, is_seen, named_flag, places_of, seen_at, seen_flag, text_of}

-- the last place is the one that was pushed
push_last : (notes : List Place) (place : Place) → slice_get (notes ++ place ∷ []) (length notes) ≡ Some place
push_last [] place = refl
push_last (x ∷ xs) place = let long : length (x ∷ xs) ≡ suc (length xs) = grind (arith, common_steps) in ap (slice_get ((x ∷ xs) ++ place ∷ [])) long ∙ push_last xs place

-- every other place is as before
push_else : (notes : List Place) (place : Place) (j : ℕ) → j ≢ length notes → slice_get (notes ++ place ∷ []) j ≡ slice_get notes j
push_else [] place zero differ = absurd (differ refl)
push_else [] place (suc j) differ = refl
push_else (x ∷ xs) place zero differ = refl
push_else (x ∷ xs) place (suc j) differ = push_else xs place j (λ same. differ (omega arith))

length-push : (notes : List Place) (place : Place) → length (notes ++ place ∷ []) ≡ length notes + 1
length-push notes place = grind (arith, common_steps)

-- the notes are of the first cells, as many as k, and know nothing
pub record AreFirstPlaces (cells : List (Global × ℕ)) (notes : List Place) (k : ℕ) : Type 0 where
  pub as_many : length notes ≡ k
  pub each : (j : ℕ) (place : Place) (cell : Global × ℕ) → slice_get notes j ≡ Some place → slice_get cells j ≡ Some cell → place.note.cell ≡ cell_name cell
  pub places : (j : ℕ) → places_of notes j ≡ None
  pub seen : (j : ℕ) → is_seen notes j ≡ false
  pub named : (j : ℕ) → is_named notes j ≡ false

pub AreFirstPlaces-none : (cells : List (Global × ℕ)) → AreFirstPlaces cells [] 0
AreFirstPlaces-none cells = record {
  as_many = refl;
  each = λ j place cell e f. cc;
  places = λ j. refl;
  seen = λ j. refl;
  named = λ j. refl;
}

same_place : (p q : Place) → Some p ≡ Some q → p ≡ q
same_place p q e = cc

same_cell : (c d : Global × ℕ) → Some c ≡ Some d → c ≡ d
same_cell c d e = cc

module _ (cells : List (Global × ℕ)) (notes : List Place) (place : Place) (k : ℕ) (cell : Global × ℕ) (first : AreFirstPlaces cells notes k) (at : slice_get cells k ≡ Some cell) (of_cell : place.note.cell ≡ cell_name cell)
    (known : place.note.known ≡ None) (seen : place.seen ≡ false) (named : place.named ≡ false) where
  abbrev more : List Place
  more = notes ++ place ∷ []

  last : (j : ℕ) → j ≡ length notes → slice_get more j ≡ Some place
  last j same = ap (slice_get more) same ∙ push_last notes place

  pub AreFirstPlaces-push : AreFirstPlaces cells more (k + 1)
  AreFirstPlaces-push = record {
    as_many = length-push notes place ∙ ap (λ n. n + 1) first.as_many;
    each = λ j p c e f. dite (ℕ_discrete j (length notes))
        (λ same. ap (λ (q : Place). q.note.cell) (same_place p place (sym e ∙ last j same)) ∙ (of_cell
        ∙ ap cell_name (same_cell cell c (sym at ∙ (ap (slice_get cells) (sym (same ∙ first.as_many)) ∙ f)))))
        (λ differ. first.each j p c (sym (push_else notes place j differ) ∙ e) f);
    places = λ j. dite (ℕ_discrete j (length notes))
        (λ same. ap seen_at (last j same) ∙ ap text_of known)
        (λ differ. ap seen_at (push_else notes place j differ) ∙ first.places j);
    seen = λ j. dite (ℕ_discrete j (length notes))
        (λ same. ap seen_flag (last j same) ∙ seen)
        (λ differ. ap seen_flag (push_else notes place j differ) ∙ first.seen j);
    named = λ j. dite (ℕ_discrete j (length notes))
        (λ same. ap named_flag (last j same) ∙ named)
        (λ differ. ap named_flag (push_else notes place j differ) ∙ first.named j);
  }

pub AreNotesOf-first : (cells : List (Global × ℕ)) (notes : List Place) (k : ℕ) → k ≡ length cells → AreFirstPlaces cells notes k → AreNotesOf cells notes
AreNotesOf-first cells notes k all first = record { as_many = first.as_many ∙ all; each = first.each }

pub AreMarked-first : (cells : List (Global × ℕ)) (notes : List Place) (k : ℕ) → AreFirstPlaces cells notes k → AreMarked notes
AreMarked-first cells notes k first j = first.seen j ∙ sym (ap is_some (first.places j))
