-- Lemmas on the first place at which a test passes.
use Rattle.std.proofs.Common.{◌≡◌, ℕ, zero, suc, ◌+◌, ◌-◌, ◌*◌, ◌<◌, ◌≤◌, inl, inr, Bool, true, false, cond, min, List, [], ◌∷◌, ◌++◌, length, take, drop, refl, ap, ap₂, sym, ◌∙◌, arith, add_assoc, length-append, length-drop, length-take-le, append_assoc}
use Rattle.std.proofs.lemmas.List.{take-append-drop, take-append-le, take-take}
use Rattle.std.proofs.Math.Seq.{take-append-add}
use Rattle.std.proofs.lemmas.Bool.{cases_lt}
use Rattle.std.proofs.lemmas.Nat.{mul-le}
use Rattle.nfg_strand.proofs.Repeats.{length-repeat}
use Rattle.nfg_strand.proofs.Ranges.{slice_range-split}
use Rattle.std.specs.Prelude.{Option, Some, None, slice_range}
use Rattle.std.specs.Option.{option_map}
use Rattle.std.specs.List.{position_from, repeat}

module _ {A : Type 0} (test : A → Bool) where
  -- counted from elsewhere, the place moves by as much
  pub position_from-add : (i j : ℕ) (xs : List A) → position_from test (i + j) xs ≡ option_map (λ k. i + k) (position_from test j xs)
  position_from-add i j [] = refl
  position_from-add i j (x ∷ xs) = elim (test x) as (λ (b : Bool). cond b (Some (i + j)) (position_from test (i + j + 1) xs) ≡ option_map (λ (k : ℕ). i + k) (cond b (Some j) (position_from test (j + 1) xs))) [
    | true ↦ refl
    | false ↦ ap (λ n. position_from test n xs) (add_assoc i j 1) ∙ position_from-add i (j + 1) xs
  ]

  -- a first place counted from i on is i more than the one counted from the start
  pub found_from_start : (i k : ℕ) (xs : List A) → position_from test i xs ≡ Some k → (i ≤ k) × (position_from test 0 xs ≡ Some (k - i))
  found_from_start i k xs found =
      let start : i + 0 ≡ i = omega arith in
      of_moved (position_from test 0 xs) (sym (position_from-add i 0 xs) ∙ ap (λ n. position_from test n xs) start ∙ found)
    where
      of_moved : (o : Option ℕ) → option_map (λ (j : ℕ). i + j) o ≡ Some k → (i ≤ k) × (o ≡ Some (k - i))
      of_moved None e = cc
      of_moved (Some j) e = let moved : i + j ≡ k = cc in (omega arith, ap Some (omega arith))

  -- no place counted from i on is no place counted from j on
  pub absent_from : (i j : ℕ) (xs : List A) → position_from test i xs ≡ None → position_from test j xs ≡ None
  absent_from i j [] absent = refl
  absent_from i j (x ∷ xs) absent = by_test (test x) absent (absent_from (i + 1) (j + 1) xs)
    where
      by_test : (b : Bool) → cond b (Some i) (position_from test (i + 1) xs) ≡ None → (position_from test (i + 1) xs ≡ None → position_from test (j + 1) xs ≡ None)
          → cond b (Some j) (position_from test (j + 1) xs) ≡ None
      by_test true absent rest = cc
      by_test false absent rest = rest absent

  -- what is found in the first list is found in both
  pub found-append : (i k : ℕ) (xs ys : List A) → position_from test i xs ≡ Some k → position_from test i (xs ++ ys) ≡ Some k
  found-append i k [] ys found = cc
  found-append i k (x ∷ xs) ys found = by_test (test x) found (found-append (i + 1) k xs ys)
    where
      by_test : (b : Bool) → cond b (Some i) (position_from test (i + 1) xs) ≡ Some k → (position_from test (i + 1) xs ≡ Some k → position_from test (i + 1) (xs ++ ys) ≡ Some k)
          → cond b (Some i) (position_from test (i + 1) (xs ++ ys)) ≡ Some k
      by_test true found rest = found
      by_test false found rest = rest found

  -- where the first list has no place, the place in both is one in the second
  pub absent-append : (i : ℕ) (xs ys : List A) → position_from test i xs ≡ None → position_from test i (xs ++ ys) ≡ position_from test (i + length xs) ys
  absent-append i [] ys absent = let same : i ≡ i + 0 = omega arith in ap (λ n. position_from test n ys) same
  absent-append i (x ∷ xs) ys absent = by_test (test x) absent (absent-append (i + 1) xs ys)
    where
      by_test : (b : Bool) → cond b (Some i) (position_from test (i + 1) xs) ≡ None → (position_from test (i + 1) xs ≡ None → position_from test (i + 1) (xs ++ ys) ≡ position_from test (i + 1 + length xs) ys)
          → cond b (Some i) (position_from test (i + 1) (xs ++ ys)) ≡ position_from test (i + suc (length xs)) ys
      by_test true absent rest = cc
      by_test false absent rest = let moved : i + 1 + length xs ≡ i + suc (length xs) = omega arith in rest absent ∙ ap (λ n. position_from test n ys) moved

  pub found-second : (k : ℕ) (xs ys : List A) → position_from test 0 xs ≡ None → position_from test 0 ys ≡ Some k → position_from test 0 (xs ++ ys) ≡ Some (length xs + k)
  found-second k xs ys absent found =
      let start : 0 + length xs ≡ length xs + 0 = omega arith in
      absent-append 0 xs ys absent ∙ ap (λ n. position_from test n ys) start ∙ position_from-add (length xs) 0 ys ∙ ap (option_map (λ (j : ℕ). length xs + j)) found

  -- a list without a place: of two lists, of a part, of repetitions
  pub absent-both : (xs ys : List A) → position_from test 0 xs ≡ None → position_from test 0 ys ≡ None → position_from test 0 (xs ++ ys) ≡ None
  absent-both xs ys none_first none_second = absent-append 0 xs ys none_first ∙ absent_from 0 (0 + length xs) ys none_second

  pub absent-front : (i : ℕ) (xs ys : List A) → position_from test i (xs ++ ys) ≡ None → position_from test i xs ≡ None
  absent-front i [] ys absent = refl
  absent-front i (x ∷ xs) ys absent = by_test (test x) absent (absent-front (i + 1) xs ys)
    where
      by_test : (b : Bool) → cond b (Some i) (position_from test (i + 1) (xs ++ ys)) ≡ None → (position_from test (i + 1) (xs ++ ys) ≡ None → position_from test (i + 1) xs ≡ None)
          → cond b (Some i) (position_from test (i + 1) xs) ≡ None
      by_test true absent rest = cc
      by_test false absent rest = rest absent

  pub absent-back : (xs ys : List A) → position_from test 0 (xs ++ ys) ≡ None → position_from test 0 ys ≡ None
  absent-back xs ys absent = absent_from (0 + length xs) 0 ys (sym (absent-append 0 xs ys (absent-front 0 xs ys absent)) ∙ absent)

  pub absent-take : (n : ℕ) (xs : List A) → position_from test 0 xs ≡ None → position_from test 0 (take n xs) ≡ None
  absent-take n xs absent = absent-front 0 (take n xs) (drop n xs) (ap (position_from test 0) (take-append-drop n xs) ∙ absent)

  pub absent-repeat : (n : ℕ) (xs : List A) → position_from test 0 xs ≡ None → position_from test 0 (repeat n xs) ≡ None
  absent-repeat zero xs absent = refl
  absent-repeat (suc n) xs absent = absent-both xs (repeat n xs) absent (absent-repeat n xs absent)

  -- the place is one of the list
  pub found_lt : (i k : ℕ) (xs : List A) → position_from test i xs ≡ Some k → k < i + length xs
  found_lt i k [] found = cc
  found_lt i k (x ∷ xs) found = by_test (test x) found (found_lt (i + 1) k xs)
    where
      by_test : (b : Bool) → cond b (Some i) (position_from test (i + 1) xs) ≡ Some k → (position_from test (i + 1) xs ≡ Some k → k < i + 1 + length xs) → k < i + suc (length xs)
      by_test true found rest = let here : i ≡ k = cc in omega arith
      by_test false found rest = let below = rest found in omega arith

-- a unit that comes again after the place, with more behind: looking through it once is enough
module _ {A : Type 0} (test : A → Bool) (unit rest : List A) (at later limit again : ℕ) (within : at < length unit) (comes_again : 0 < later)
    (past : length unit - at < limit) (once : again ≡ min (limit - (length unit - at)) at) (some : limit ≤ length (drop at unit ++ (repeat later unit ++ rest))) where
  in_all : take (length unit - at + again) (drop at unit ++ repeat later unit) ≡ drop at unit ++ take again unit
  in_all =
      let len = length-drop at unit in
      let one_more : later ≡ suc (later - 1) = omega arith in
      let whole : length unit - at + again ≡ length (drop at unit) + again = omega arith in
      ap₂ (λ n l. take n (drop at unit ++ repeat l unit)) whole one_more
      ∙ take-append-add (drop at unit) (unit ++ repeat (later - 1) unit) again
      ∙ ap (λ xs. drop at unit ++ xs) (take-append-le again unit (repeat (later - 1) unit) (omega arith))

  absent_in_all : again ≡ at → position_from test 0 (drop at unit ++ take again unit) ≡ None → position_from test 0 (drop at unit ++ repeat later unit) ≡ None
  absent_in_all whole absent =
      let tail = absent-front test 0 (drop at unit) (take again unit) absent in
      let head = absent-back test (drop at unit) (take again unit) absent in
      let in_unit = ap (λ n. position_from test 0 (take n unit ++ drop at unit)) (sym whole) ∙ absent-both test (take again unit) (drop at unit) head tail in
      let once_more = ap (position_from test 0) (sym (take-append-drop at unit)) ∙ in_unit in
      absent-both test (drop at unit) (repeat later unit) tail (absent-repeat test later unit once_more)

  len_all : length (drop at unit ++ repeat later unit) ≡ length unit - at + later * length unit
  len_all =
      let both = length-append (drop at unit) (repeat later unit) in
      let len = length-drop at unit in
      let repeated = length-repeat later unit in
      grind arith

  comes : at ≤ later * length unit
  comes = omega (arith, mul-le 1 (length unit) later (length unit) (omega arith) (omega arith))

  in_count : (o : Option ℕ) → position_from test 0 (drop at unit ++ take again unit) ≡ o
      → position_from test 0 (drop at unit ++ take again unit) ≡ position_from test 0 (take (min limit (length unit - at + later * length unit)) (drop at unit ++ repeat later unit))
  in_count (Some k) found =
      let all = drop at unit ++ repeat later unit in
      let seen = length unit - at + again in
      let count = min limit (length unit - at + later * length unit) in
      let long : again ≤ later * length unit = omega (arith, comes) in
      let parts = sym (take-append-drop seen (take count all)) ∙ ap (λ xs. xs ++ drop seen (take count all)) (take-take seen count all (omega arith) ∙ in_all) in
      found ∙ sym (ap (position_from test 0) parts ∙ found-append test 0 k (drop at unit ++ take again unit) (drop seen (take count all)) found)
  in_count None absent =
      let all = drop at unit ++ repeat later unit in
      let seen = length unit - at + again in
      let count = min limit (length unit - at + later * length unit) in
      let long : again ≤ later * length unit = omega (arith, comes) in
      elim (cases_lt again at) [
        | inl short ↦
            let exact : count ≡ seen = omega arith in
            ap (position_from test 0) (sym (ap (λ n. take n all) exact ∙ in_all))
        | inr whole ↦
            let full : again ≡ at = omega arith in
            absent ∙ sym (absent-take test count all (absent_in_all full absent))
      ]

  pub position_from-round : position_from test 0 (drop at unit ++ take again unit)
      ≡ position_from test 0 (take (min limit (length unit - at + later * length unit)) (drop at unit ++ (repeat later unit ++ rest)))
  position_from-round =
      let count = min limit (length unit - at + later * length unit) in
      let len = len_all in
      in_count (position_from test 0 (drop at unit ++ take again unit)) refl
      ∙ ap (position_from test 0)
      (sym (ap (take count) (sym (append_assoc (drop at unit) (repeat later unit) rest)) ∙ take-append-le count (drop at unit ++ repeat later unit) rest (omega arith)))

-- a search in a range, after its first n elements
module _ {A : Type 0} (test : A → Bool) (xs : List A) (at until n : ℕ) (ordered : at + n ≤ until) (inside : until ≤ length xs) where
  pub found_in_range : (k : ℕ) → position_from test 0 (take n (drop at xs)) ≡ Some k → position_from test at (slice_range xs at until) ≡ Some (at + k)
  found_in_range k found =
      let start : at ≡ at + 0 = omega arith in
      let moved = ap (λ i. position_from test i (take n (drop at xs))) start ∙ position_from-add test at 0 (take n (drop at xs)) ∙ ap (option_map (λ (j : ℕ). at + j)) found in
      ap (position_from test at) (slice_range-split xs at until n ordered)
      ∙ found-append test at (at + k) (take n (drop at xs)) (slice_range xs (at + n) until) moved

  pub absent_in_range : position_from test 0 (take n (drop at xs)) ≡ None → position_from test at (slice_range xs at until) ≡ position_from test (at + n) (slice_range xs (at + n) until)
  absent_in_range absent =
      let len = length-take-le n (drop at xs) (simp length-drop (omega arith)) in
      ap (position_from test at) (slice_range-split xs at until n ordered)
      ∙ absent-append test at (take n (drop at xs)) (slice_range xs (at + n) until) (absent_from test 0 at (take n (drop at xs)) absent)
      ∙ ap (λ i. position_from test (at + i) (slice_range xs (at + n) until)) len

  pub found_below : (k : ℕ) → position_from test 0 (take n (drop at xs)) ≡ Some k → k < n
  found_below k found =
      let len = length-take-le n (drop at xs) (simp length-drop (omega arith)) in
      omega (arith, found_lt test 0 k (take n (drop at xs)) found)
