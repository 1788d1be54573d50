-- Searches and comparisons, element by element.
use Rattle.std.proofs.Common.{◌≡◌, ℕ, ◌+◌, ◌-◌, ◌<◌, ◌≤◌, Bool, true, false, cond, eqb, List, [], ◌∷◌, zero, suc, inl, inr, ap, length, get_or, take, drop, slice_range, reverse, min, sym, ap₂, ◌∙◌, arith, length-take-le}
use Rattle.std.proofs.lemmas.Bool.{cases_lt, eq-eqb, ne_eqb}
use Rattle.std.proofs.lemmas.List.{take-append-drop, length-drop, length-reverse, get_or-reverse}
use Rattle.std.proofs.lemmas.List.Folds.{prefix_len-append}
use Rattle.std.proofs.lemmas.List.Sums.{prefix_len-le-length, common_prefix_len-le, common_prefix_len-drop_no, common_prefix_len-drop_yes}
use Rattle.std.specs.List.{common_prefix_len, prefix_len}

-- the whole of the shorter list is in common
pub all_in_common : {X Y : Type 0} (same : X → Y → Bool) (xs : List X) (ys : List Y) (i len : ℕ)
    → common_prefix_len same xs ys ≡ i + common_prefix_len same (drop i xs) (drop i ys) → len ≡ min (length xs) (length ys) → len ≤ i
    → len ≡ common_prefix_len same xs ys
all_in_common same xs ys i len so_far shorter past = omega (arith, so_far, shorter, past, common_prefix_len-le same xs ys)

-- from the back: one element more that is in common
pub back_step : {X Y : Type 0} (same : X → Y → Bool) (xs : List X) (ys : List Y) (i : ℕ) (c : X) (d : Y) → i < length xs → i < length ys
    → same (get_or xs (length xs - 1 - i) c) (get_or ys (length ys - 1 - i) d) ≡ true
    → common_prefix_len same (drop i (reverse xs)) (drop i (reverse ys)) ≡ 1 + common_prefix_len same (drop (i + 1) (reverse xs)) (drop (i + 1) (reverse ys))
back_step same xs ys i c d left right equal =
    common_prefix_len-drop_yes same (reverse xs) (reverse ys) i c d (omega (arith, left, length-reverse xs)) (omega (arith, right, length-reverse ys))
    (ap₂ same (get_or-reverse xs i c left) (get_or-reverse ys i d right) ∙ equal)

-- and one that is not
pub back_stop : {X Y : Type 0} (same : X → Y → Bool) (xs : List X) (ys : List Y) (i : ℕ) (c : X) (d : Y) → i < length xs → i < length ys
    → same (get_or xs (length xs - 1 - i) c) (get_or ys (length ys - 1 - i) d) ≡ false
    → common_prefix_len same (drop i (reverse xs)) (drop i (reverse ys)) ≡ 0
back_stop same xs ys i c d left right differ =
    common_prefix_len-drop_no same (reverse xs) (reverse ys) i c d (omega (arith, left, length-reverse xs)) (omega (arith, right, length-reverse ys))
    (ap₂ same (get_or-reverse xs i c left) (get_or-reverse ys i d right) ∙ differ)

step_min : (b : Bool) (n m k : ℕ) → m ≡ min n k → cond b (1 + m) 0 ≡ min (suc n) (cond b (1 + k) 0)
step_min true n m k least = omega (arith, least)
step_min false n m k least = omega arith

-- the fronts of n elements have in common what the lists have, up to n
in_common_up_to : {X Y : Type 0} (same : X → Y → Bool) (n : ℕ) (xs : List X) (ys : List Y)
    → common_prefix_len same (take n xs) (take n ys) ≡ min n (common_prefix_len same xs ys)
in_common_up_to same zero xs ys = omega arith
in_common_up_to same (suc n) [] ys = omega arith
in_common_up_to same (suc n) (x ∷ xs) [] = omega arith
in_common_up_to same (suc n) (x ∷ xs) (y ∷ ys) = step_min (same x y) n _ _ (in_common_up_to same n xs ys)

-- from a place on that is cut back to the end of the shorter list
pub from_place : {X Y : Type 0} (same : X → Y → Bool) (xs : List X) (ys : List Y) (m start : ℕ) → start ≡ min m (min (length xs) (length ys))
    → common_prefix_len same (drop start xs) (drop start ys) ≡ common_prefix_len same (drop m xs) (drop m ys)
from_place same xs ys m start cut =
    elim (cases_lt m (min (length xs) (length ys))) [
      | inl inside ↦ let as_it_is : start ≡ m = omega (arith, cut, inside) in ap (λ k. common_prefix_len same (drop k xs) (drop k ys)) as_it_is
      | inr past ↦
          omega (
            arith,
            cut,
            past,
            length-drop start xs,
            length-drop start ys,
            length-drop m xs,
            length-drop m ys,
            common_prefix_len-le same (drop start xs) (drop start ys),
            common_prefix_len-le same (drop m xs) (drop m ys),
          )
    ]

-- and over all that both have from there on
pub ranges_in_common : {X Y : Type 0} (same : X → Y → Bool) (xs : List X) (ys : List Y) (start count : ℕ)
    → count ≡ min (length xs) (length ys) - start
    → common_prefix_len same (slice_range xs start (start + count)) (slice_range ys start (start + count))
    ≡ common_prefix_len same (drop start xs) (drop start ys)
ranges_in_common same xs ys start count all =
    let len = start + count - start in
    omega (
      arith,
      all,
      in_common_up_to same len (drop start xs) (drop start ys),
      common_prefix_len-le same (drop start xs) (drop start ys),
      length-drop start xs,
      length-drop start ys,
    )

-- how many elements at the front pass, by the first n elements: fewer than those, or all of them and some behind
module _ {X : Type 0} (p : X → Bool) (xs : List X) (n : ℕ) (inside : n ≤ length xs) where
  front_is : prefix_len p xs
      ≡ cond (eqb (prefix_len p (take n xs)) (length (take n xs))) (length (take n xs) + prefix_len p (drop n xs)) (prefix_len p (take n xs))
  front_is = ap (prefix_len p) (sym (take-append-drop n xs)) ∙ prefix_len-append p (take n xs) (drop n xs)

  pub prefix_len-within : prefix_len p (take n xs) < n → prefix_len p xs ≡ prefix_len p (take n xs)
  prefix_len-within fewer =
      front_is ∙ ap (λ b. cond b (length (take n xs) + prefix_len p (drop n xs)) (prefix_len p (take n xs)))
      (ne_eqb _ _ (omega (arith, fewer, length-take-le n xs inside)))

  pub prefix_len-behind : n ≤ prefix_len p (take n xs) → prefix_len p xs ≡ n + prefix_len p (drop n xs)
  prefix_len-behind all =
      let len = length-take-le n xs inside in
      let whole : prefix_len p (take n xs) ≡ length (take n xs) = omega (arith, all, len, prefix_len-le-length p (take n xs)) in
      front_is ∙ ap (λ b. cond b (length (take n xs) + prefix_len p (drop n xs)) (prefix_len p (take n xs))) (eq-eqb _ _ whole)
      ∙ ap (λ m. m + prefix_len p (drop n xs)) len
