-- Common fronts of two lists, taken either way.
use Rattle.std.proofs.Common.{◌≡◌, ◌+◌, ℕ, ℤ, cond, List, [], ◌∷◌, ◌-◌, length, take, drop, int_eq, inl, inr, refl, sym, ap, ap₂, ◌∙◌, arith}
use Rattle.std.proofs.lemmas.Bool.{both_ways, cases_Bool, false_from_ne_true}
use Rattle.std.proofs.lemmas.Bool.Decides.{Decides-int_eq}
use Rattle.std.proofs.lemmas.List.{length-drop, take_all}
use Rattle.std.specs.List.{common_prefix_len, slice_range}

-- whether two numbers are equal does not depend on which comes first
int_eq-swapped : (x y : ℤ) → int_eq x y ≡ int_eq y x
int_eq-swapped x y =
    elim (cases_Bool (int_eq x y)) [
      | inl equal ↦ equal ∙ sym ((Decides-int_eq y x).1 (sym ((Decides-int_eq x y).0 equal)))
      | inr other ↦ other ∙ sym (false_from_ne_true _ (λ equal. absurd (both_ways _ other ((Decides-int_eq x y).1 (sym ((Decides-int_eq y x).0 equal))))))
    ]

pub common_prefix_len-swapped : (xs ys : List ℤ) → common_prefix_len int_eq xs ys ≡ common_prefix_len int_eq ys xs
common_prefix_len-swapped [] [] = refl
common_prefix_len-swapped [] (y ∷ ys) = refl
common_prefix_len-swapped (x ∷ xs) [] = refl
common_prefix_len-swapped (x ∷ xs) (y ∷ ys) = ap₂ (λ b n. cond b (1 + n) 0) (int_eq-swapped x y) (common_prefix_len-swapped xs ys)

-- lists of one length are equal just where they are in common as far as they reach
pub equal_from_front : (xs ys : List ℤ) → length xs ≡ length ys → common_prefix_len int_eq xs ys ≡ length xs → xs ≡ ys
equal_from_front [] [] same full = refl
equal_from_front [] (y ∷ ys) same full = absurd (omega (arith, same))
equal_from_front (x ∷ xs) [] same full = absurd (omega (arith, same))
equal_from_front (x ∷ xs) (y ∷ ys) same full =
    elim (cases_Bool (int_eq x y)) [
      | inl equal ↦
          let rest = ap (λ b. cond b (1 + common_prefix_len int_eq xs ys) 0) equal in
          ap₂ (λ z zs. z ∷ zs) ((Decides-int_eq x y).0 equal) (equal_from_front xs ys (omega (arith, same)) (omega (arith, full, rest)))
      | inr other ↦ absurd (omega (arith, full, ap (λ b. cond b (1 + common_prefix_len int_eq xs ys) 0) other))
    ]

pub front_of_itself : (xs : List ℤ) → common_prefix_len int_eq xs xs ≡ length xs
front_of_itself [] = refl
front_of_itself (x ∷ xs) = ap₂ (λ b n. cond b (1 + n) 0) ((Decides-int_eq x x).1 refl) (front_of_itself xs) ∙ omega arith

-- the count elements from i on, of the rest from i on
pub rest_part : (zs : List ℤ) (i count : ℕ) → take count (take (length zs - i) (drop i zs)) ≡ slice_range zs i (i + count)
rest_part zs i count =
    ap (take count) (take_all (length zs - i) (drop i zs) (omega (arith, length-drop i zs))) ∙ ap (λ n. take n (drop i zs)) (omega arith)
