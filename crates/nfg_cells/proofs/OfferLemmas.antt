-- What the notes know after one of them has changed.
use Rattle.std.proofs.Common.{◌≡◌, ◌≢◌, ℕ, zero, suc, ◌<◌, List, [], ◌∷◌, length, slice_get, slice_set, get_or, Some, None, Result, Ok, Err, MatchResult, OnErr, refl, sym, ap, ◌∙◌, arith}
use Rattle.std.proofs.lemmas.Grind.{common_steps}
use Rattle.std.proofs.lemmas.Option.{slice_get-get_or}
use mathlib.Core.Logic.{dite}
use native.Mathlib.Decide.{ℕ_discrete}
use Rattle.nfg_syn.specs.Known.{IsSame}
use Rattle.nfg_cells.specs.Notes.{places_of, seen_at, text_of}
use Rattle.nfg_cells.specs.declared.place.Place.{Place}

pub set_here : (notes : List Place) (k : ℕ) (place : Place) → k < length notes → places_of (slice_set notes k place) k ≡ seen_at (Some place)
set_here [] k place inside = absurd (omega arith)
set_here (x ∷ xs) zero place inside = refl
set_here (x ∷ xs) (suc k) place inside = set_here xs k place (grind (arith, common_steps))

pub set_else : (notes : List Place) (k : ℕ) (place : Place) (j : ℕ) → j ≢ k → places_of (slice_set notes k place) j ≡ places_of notes j
set_else [] k place j differ = refl
set_else (x ∷ xs) zero place zero differ = absurd (differ refl)
set_else (x ∷ xs) zero place (suc j) differ = refl
set_else (x ∷ xs) (suc k) place zero differ = refl
set_else (x ∷ xs) (suc k) place (suc j) differ = set_else xs k place j (λ same. differ (omega arith))

pub read_here : (notes : List Place) (k : ℕ) (place : Place) → k < length notes → place ≡ get_or notes k place → places_of notes k ≡ text_of place.note.known
read_here notes k place inside is = ap seen_at (slice_get-get_or notes k place inside ∙ ap Some (sym is))

same_places : (notes : List Place) (k : ℕ) (old new : Place) → k < length notes → old ≡ get_or notes k old → (get_or notes k old).note.known ≡ None → new.note.known ≡ None
    → IsSame (places_of notes) (places_of (slice_set notes k new))
same_places notes k old new inside is before after j = dite (ℕ_discrete j k)
    (λ same. ap (places_of (slice_set notes k new)) same ∙ (set_here notes k new inside ∙ (ap text_of after
    ∙ (sym (ap text_of (ap (λ (place : Place). place.note.known) is ∙ before)) ∙ (sym (read_here notes k old inside is) ∙ ap (places_of notes) (sym same))))))
    (λ differ. set_else notes k new j differ)

-- a cell that gives no text was not seen, and is not seen now
pub refused_same : {A E : Type 0} (notes : List Place) (k : ℕ) (old new : Place) → k < length notes → old ≡ get_or notes k old → (P : A → Type 0) (r : Result A E)
    → MatchResult r P (λ _. ((get_or notes k old).note.known ≡ None) × (new.note.known ≡ None)) → OnErr r (IsSame (places_of notes) (places_of (slice_set notes k new)))
refused_same notes k old new inside is P (Ok value) met = tt
refused_same notes k old new inside is P (Err error) met = same_places notes k old new inside is met.0 met.1

pub refused_unseen : {A E : Type 0} (notes : List Place) (k : ℕ) (old new : Place) → k < length notes → old ≡ get_or notes k old → (P : A → Type 0) (r : Result A E)
    → MatchResult r P (λ _. ((get_or notes k old).note.known ≡ None) × (new.note.known ≡ None)) → OnErr r (places_of notes k ≡ None)
refused_unseen notes k old new inside is P (Ok value) met = tt
refused_unseen notes k old new inside is P (Err error) met = read_here notes k old inside is ∙ ap text_of (ap (λ (place : Place). place.note.known) is ∙ met.0)

pub get_here : (notes : List Place) (k : ℕ) (place : Place) → k < length notes → slice_get (slice_set notes k place) k ≡ Some place
get_here [] k place inside = absurd (omega arith)
get_here (x ∷ xs) zero place inside = refl
get_here (x ∷ xs) (suc k) place inside = get_here xs k place (grind (arith, common_steps))

pub get_else : (notes : List Place) (k : ℕ) (place : Place) (j : ℕ) → j ≢ k → slice_get (slice_set notes k place) j ≡ slice_get notes j
get_else [] k place j differ = refl
get_else (x ∷ xs) zero place zero differ = absurd (differ refl)
get_else (x ∷ xs) zero place (suc j) differ = refl
get_else (x ∷ xs) (suc k) place zero differ = refl
get_else (x ∷ xs) (suc k) place (suc j) differ = get_else xs k place j (λ same. differ (omega arith))
