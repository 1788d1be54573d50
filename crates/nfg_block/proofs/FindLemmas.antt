-- The first element that equals a number.
use Rattle.std.proofs.Common.{◌≡◌, ℕ, ◌+◌, ◌<◌, ℤ, pos, negsuc, Bool, true, false, not, cond, ltb, List, [], ◌∷◌, length, suc, inl, inr, Option, Some, None, int_eq, w8, FitsSigned, refl, sym, ap, ap₂, ◌∙◌, arith}
use Rattle.std.proofs.lemmas.Bool.{and_parts, both_ways, cases_lt, false_from_ne_true}
use Rattle.std.proofs.lemmas.Bool.Decides.{Decides-int_eq}
use Rattle.std.specs.List.{list_all, position_from, position_or_len}
use Rattle.nfg_lanes.specs.Lanes.{is_narrow_grapheme}
use lib.Signed.{lt_z}

-- a number that no block of 8 bits holds is in no narrow list
other_than_wide : (x y : ℤ) → is_narrow_grapheme x ≡ false → is_narrow_grapheme y ≡ true → int_eq y x ≡ false
other_than_wide x y wide narrow =
    false_from_ne_true _ (λ equal. both_ways _ wide (sym (ap is_narrow_grapheme ((Decides-int_eq y x).0 equal)) ∙ narrow))

-- below -1, above 127, and between
pub low_is_wide : (x : ℤ) → lt_z x (negsuc 0) ≡ true → is_narrow_grapheme x ≡ false
low_is_wide (pos n) low = cc
low_is_wide (negsuc n) low = grind arith

pub high_is_wide : (x : ℤ) → lt_z (pos 127) x ≡ true → is_narrow_grapheme x ≡ false
high_is_wide (pos n) high = grind arith
high_is_wide (negsuc n) high = cc

pub between_fits : (x : ℤ) → lt_z x (negsuc 0) ≡ false → lt_z (pos 127) x ≡ false → FitsSigned w8 x
between_fits (pos n) low high = let below : n < 128 = grind arith in record { sfits = omega (arith, below) }
between_fits (negsuc n) low high = let first : n ≡ 0 = grind arith in record { sfits = omega (arith, first) }

pub wide_is_not_found : (x : ℤ) (zs : List ℤ) → is_narrow_grapheme x ≡ false → list_all is_narrow_grapheme zs ≡ true → length zs ≡ position_or_len (λ y. int_eq y x) zs
wide_is_not_found x [] wide all = refl
wide_is_not_found x (z ∷ zs) wide all =
    let parts = and_parts (is_narrow_grapheme z) (list_all is_narrow_grapheme zs) all in
    omega (arith, wide_is_not_found x zs wide parts.1, ap (λ b. cond (not b) (1 + position_or_len (λ y. int_eq y x) zs) 0) (other_than_wide x z wide parts.0))

at_head : (i n : ℕ) → cond (ltb 0 (suc n)) (Some (i + 0)) None ≡ Some i
at_head i n = grind arith

further : (i m n : ℕ) → cond (ltb (1 + m) (suc n)) (Some (i + (1 + m))) None ≡ cond (ltb m n) (Some (i + 1 + m)) None
further i m n = elim (cases_lt m n) [ inl before ↦ grind arith | inr past ↦ grind arith ]

-- the index, counted from i, of what `position_or_len` finds
pub position_from-found : (p : ℤ → Bool) (i : ℕ) (zs : List ℤ) → cond (ltb (position_or_len p zs) (length zs)) (Some (i + position_or_len p zs)) None ≡ position_from p i zs
position_from-found p i [] = refl
position_from-found p i (z ∷ zs) =
    elim (p z) as (λ b. cond (ltb (cond (not b) (1 + position_or_len p zs) 0) (length (z ∷ zs))) (Some (i + cond (not b) (1 + position_or_len p zs) 0)) None ≡ cond b (Some i) (position_from p (i + 1) zs)) [
      | true ↦ at_head i (length zs)
      | false ↦ further i (position_or_len p zs) (length zs) ∙ position_from-found p (i + 1) zs
    ]

-- what `index_from` makes of the place that was found in a list of count elements
pub found_from : (p : ℤ → Bool) (zs : List ℤ) (from count at : ℕ) (result : Option ℕ) → length zs ≡ count → at ≡ position_or_len p zs
    → result ≡ cond (ltb at count) (Some (from + at)) None → result ≡ position_from p from zs
found_from p zs from count at result long found is =
    is ∙ ap₂ (λ a n. cond (ltb a n) (Some (from + a)) None) found (sym long) ∙ position_from-found p from zs
