-- The least and the greatest place that pass a test are those of the definitions by recursion.
use Rattle.std.proofs.Common.{◌≡◌, ℕ, zero, suc, ◌+◌, ◌-◌, ◌<◌, ◌≤◌, List, length, Bool, true, false, Option, Some, None, refl, sym, ap, ◌∙◌, arith, inl, inr}
use Rattle.std.proofs.lemmas.Bool.{both_ways, and_left, lt-leb, cases_lt, cases_eq}
use Rattle.nfg_text.specs.Operations.{occurs_at, first_among, first_place, last_place}
use Rattle.nfg_ops.specs.Places.{IsFirst, IsLast}

-- the same places, where the tests answer alike
pub IsFirst-same : (f g : ℕ → Bool) → ((k : ℕ) → f k ≡ g k) → (from : ℕ) (found : Option ℕ) → IsFirst f from found → IsFirst g from found
IsFirst-same f g same from None none = λ k low. sym (same k) ∙ none k low
IsFirst-same f g same from (Some place) is = (is.0, sym (same place) ∙ is.1, λ k low below. sym (same k) ∙ is.2 k low below)

pub IsLast-same : (f g : ℕ → Bool) → ((k : ℕ) → f k ≡ g k) → (from : ℕ) (found : Option ℕ) → IsLast f from found → IsLast g from found
IsLast-same f g same from None none = λ k high. sym (same k) ∙ none k high
IsLast-same f g same from (Some place) is = (is.0, sym (same place) ∙ is.1, λ k above high. sym (same k) ∙ is.2 k above high)

module _ (list part : List (List ℕ)) where
  past_end : (k : ℕ) → length list < k → occurs_at list part k ≡ false
  past_end k past = and_left _ _ (lt-leb (k + length part) (length list) (omega (arith, past)))

  among-none : (count from : ℕ) → ((k : ℕ) → from ≤ k → occurs_at list part k ≡ false) → first_among list part count from ≡ None
  among-none zero from none = refl
  among-none (suc count) from none =
      let here = none from (omega arith) in
      rw here (among-none count (from + 1) (λ k low. none k (omega (arith, low))))

  among-some : (count from place : ℕ) → from ≤ place → place < from + count → occurs_at list part place ≡ true
      → ((k : ℕ) → from ≤ k → k < place → occurs_at list part k ≡ false) → first_among list part count from ≡ Some place
  among-some zero from place low high here before = absurd (omega (arith, low, high))
  among-some (suc count) from place low high here before = elim (cases_eq from place) [
    | inl at ↦ let passes = ap (occurs_at list part) at ∙ here in rw passes (ap Some at)
    | inr differ ↦
        let fails = before from (omega arith) (omega (arith, low, differ)) in
        rw fails (among-some count (from + 1) place (omega (arith, low, differ)) (omega (arith, high)) here (λ k l b. before k (omega (arith, l)) b))
  ]

  pub first-place : (from : ℕ) (found : Option ℕ) → IsFirst (occurs_at list part) from found → found ≡ first_place list part from
  first-place from None none = sym (among-none (length list + 1 - from) from none)
  first-place from (Some place) is = elim (cases_lt (length list) place) [
    | inl past ↦ absurd (both_ways (occurs_at list part place) (past_end place past) is.1)
    | inr within ↦ sym (among-some (length list + 1 - from) from place is.0 (omega (arith, is.0, within)) is.1 is.2)
  ]

  pub last-place : (from : ℕ) (found : Option ℕ) → IsLast (occurs_at list part) from found → found ≡ last_place list part from
  last-place zero None none = let here = none 0 (omega arith) in rw here refl
  last-place zero (Some place) is =
      let at : place ≡ 0 = omega (arith, is.0) in
      let here = ap (occurs_at list part) (sym at) ∙ is.1 in
      rw here (ap Some at)
  last-place (suc before) None none =
      let here = none (suc before) (omega arith) in
      rw here (last-place before None (λ k high. none k (omega (arith, high))))
  last-place (suc before) (Some place) is = elim (cases_eq place (suc before)) [
    | inl at ↦ let here = ap (occurs_at list part) (sym at) ∙ is.1 in rw here (ap Some at)
    | inr differ ↦
        let here = is.2 (suc before) (omega (arith, is.0, differ)) (omega arith) in
        rw here (last-place before (Some place) (omega (arith, is.0, differ), is.1, λ k above high. is.2 k above (omega (arith, high))))
  ]
