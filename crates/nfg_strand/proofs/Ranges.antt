-- Lemmas on ranges of lists.
use Rattle.std.proofs.Common.{◌≡◌, ℕ, zero, suc, ◌+◌, ◌-◌, ◌<◌, ◌≤◌, min, List, [], ◌∷◌, ◌++◌, length, get_or, take, drop, refl, ap, ap₂, sym, ◌∙◌, arith, append_assoc, append-nil, length-append, length-drop, length-take-le, get_or-drop, get_or-take}
use Rattle.std.proofs.lemmas.List.{drop_all, drop_at, drop-append-le, drop-drop, drop-take, take-append-le, take-take, take_min, take_rest, drop_min, take-append-drop, take_at}
use Rattle.std.proofs.lemmas.Slice.{take-put_mid}
use borrow.Rule.Slice.PartMut.{put_mid}
use Rattle.std.proofs.Math.Seq.{take-add, take-append-add}
use Rattle.std.specs.Prelude.{slice_range, slice_get}

module _ {A : Type 0} where
  pub length-slice_range : (xs : List A) (a b : ℕ) → b ≤ length xs → length (slice_range xs a b) ≡ b - a
  length-slice_range xs a b inside = length-take-le (b - a) (drop a xs) (simp length-drop (omega arith))

  pub get_or-slice_range : (xs : List A) (a b i : ℕ) (d : A) → i < b - a → get_or (slice_range xs a b) i d ≡ get_or xs (a + i) d
  get_or-slice_range xs a b i d within = get_or-take (b - a) (drop a xs) i d within ∙ get_or-drop a xs i d

  -- what is taken of two lists in a row
  pub take-append : (n : ℕ) (xs ys : List A) → take n (xs ++ ys) ≡ take n xs ++ take (n - length xs) ys
  take-append zero xs ys = let none : 0 - length xs ≡ 0 = omega arith in rw none refl
  take-append (suc n) [] ys = let all : suc n - 0 ≡ suc n = omega arith in rw all refl
  take-append (suc n) (x ∷ xs) ys =
      let one_less : suc n - suc (length xs) ≡ n - length xs = omega arith in
      rw one_less (ap (λ zs. x ∷ zs) (take-append n xs ys))

  -- what is left of two lists in a row
  pub drop-append : (n : ℕ) (xs ys : List A) → drop n (xs ++ ys) ≡ drop n xs ++ drop (n - length xs) ys
  drop-append zero xs ys = let none : 0 - length xs ≡ 0 = omega arith in rw none refl
  drop-append (suc n) [] ys = let all : suc n - 0 ≡ suc n = omega arith in rw all refl
  drop-append (suc n) (x ∷ xs) ys =
      let one_less : suc n - suc (length xs) ≡ n - length xs = omega arith in
      rw one_less (drop-append n xs ys)

  -- a range of two lists in a row: its part in the first, and its part in the second
  pub slice_range-append : (xs ys : List A) (a b : ℕ) → a ≤ b →
      slice_range (xs ++ ys) a b ≡ slice_range xs (min a (length xs)) (min b (length xs)) ++ slice_range ys (a - length xs) (b - length xs)
  slice_range-append xs ys a b ordered =
      let cut = drop-append a xs ys in
      let len = length-drop a xs in
      let rest : b - a - length (drop a xs) ≡ (b - length xs) - (a - length xs) = omega arith in
      ap (take (b - a)) cut ∙ take-append (b - a) (drop a xs) (drop (a - length xs) ys)
      ∙ ap₂ ◌++◌ (front a b ordered) (ap (λ n. take n (drop (a - length xs) ys)) rest)
    where
      front : (a b : ℕ) → a ≤ b → take (b - a) (drop a xs) ≡ take (min b (length xs) - min a (length xs)) (drop (min a (length xs)) xs)
      front a b ordered =
          let len = length-drop a xs in
          let both : min (b - a) (length (drop a xs)) ≡ min b (length xs) - min a (length xs) = omega arith in
          sym (take_min (b - a) (drop a xs)) ∙ ap₂ take both (sym (drop_min a xs))

  -- a range of a range
  pub slice_range-slice_range : (xs : List A) (a b i j : ℕ) → i ≤ j → a + j ≤ b → slice_range (slice_range xs a b) i j ≡ slice_range xs (a + i) (a + j)
  slice_range-slice_range xs a b i j ordered inside =
      let until : b - a ≡ i + (b - a - i) = omega arith in
      let count : j - i ≡ a + j - (a + i) = omega arith in
      ap (λ n. take (j - i) (drop i (take n (drop a xs)))) until
      ∙ ap (take (j - i)) (drop-take i (b - a - i) (drop a xs) ∙ ap (take (b - a - i)) (drop-drop i a xs))
      ∙ take-take (j - i) (b - a - i) (drop (a + i) xs) (omega arith)
      ∙ ap (λ n. take n (drop (a + i) xs)) count

  -- a range that lies in another, by the place and the count in that one
  pub slice_range_within : (xs : List A) (start end at count : ℕ) → start ≤ end → at + count ≤ end - start →
      slice_range xs (start + at) (start + at + count) ≡ take count (drop at (slice_range xs start end))
  slice_range_within xs start end at count ordered inside =
      let counted : at + count - at ≡ count = omega arith in
      let assoc : start + at + count ≡ start + (at + count) = omega arith in
      ap (slice_range xs (start + at)) assoc
      ∙ sym (slice_range-slice_range xs start end at (at + count) (omega arith) (omega arith))
      ∙ ap (λ n. take n (drop at (slice_range xs start end))) counted

  -- a part of a unit, as a range of the block in which the unit lies
  pub unit_part : (block unit : List A) (start end at count : ℕ) → slice_range block start end ≡ unit → start ≤ end → end ≤ length block →
      at + count ≤ length unit → slice_range block (start + at) (start + at + count) ≡ take count (drop at unit)
  unit_part block unit start end at count view ordered inside within =
      let len = length-slice_range block start end inside in
      let same = ap length view in
      slice_range_within block start end at count ordered (omega arith) ∙ ap (λ xs. take count (drop at xs)) view

  -- the element at a place is the first of what is left there
  pub slice_get_first : (xs : List A) (k : ℕ) → slice_get (drop k xs) 0 ≡ slice_get xs k
  slice_get_first [] zero = refl
  slice_get_first [] (suc k) = refl
  slice_get_first (x ∷ xs) zero = refl
  slice_get_first (x ∷ xs) (suc k) = slice_get_first xs k

  -- the first n are the first m and those after them
  pub take_split : (m n : ℕ) (xs : List A) → m ≤ n → take n xs ≡ take m xs ++ take (n - m) (drop m xs)
  take_split m n xs ordered =
      let parts : n ≡ m + (n - m) = omega arith in
      sym (take-append-drop m (take n xs))
      ∙ ap₂ ◌++◌ (take-take m n xs ordered) (ap (λ k. drop m (take k xs)) parts ∙ drop-take m (n - m) xs)

  -- a range is its first n elements and the range after them
  pub slice_range-split : (xs : List A) (a b n : ℕ) → a + n ≤ b → slice_range xs a b ≡ take n (drop a xs) ++ slice_range xs (a + n) b
  slice_range-split xs a b n inside =
      let rest : b - a - n ≡ b - (a + n) = omega arith in
      take_split n (b - a) (drop a xs) (omega arith)
      ∙ ap₂ (λ k ys. take n (drop a xs) ++ take k ys) rest (drop-drop n a xs)

  -- after a write to the end of a slice from a place on: what is before the place stays, and the new elements follow
  pub take-put_mid_front : (xs ys source tail : List A) (at k count : ℕ) → at ≤ length xs → count ≤ length ys → count ≤ length (drop at source) →
      ys ≡ take count (drop at source) ++ tail → take at xs ≡ take at source → take (at + count) (put_mid at k xs ys) ≡ take (at + count) source
  take-put_mid_front xs ys source tail at k count inside written enough new old =
      let placed = take-put_mid at k xs ys (at + length ys) refl inside in
      let front_len = length-take-le at xs inside in
      let new_len = length-take-le count (drop at source) enough in
      let parts : at + count ≡ length (take at xs) + count = omega arith in
      let after : at + count - at ≡ count = omega arith in
      sym (take-take (at + count) (at + length ys) (put_mid at k xs ys) (omega arith))
      ∙ ap (take (at + count)) placed
      ∙ ap (λ n. take n (take at xs ++ ys)) parts
      ∙ take-append-add (take at xs) ys count
      ∙ ap₂ ◌++◌ old (ap (take count) new ∙ take_at (take count (drop at source)) tail count new_len)
      ∙ ap (λ n. take at source ++ take n (drop at source)) (sym after)
      ∙ sym (take_split at (at + count) source (omega arith))

  -- what is left after some elements of the first of two lists in a row
  pub drop-rest : (all next after rest : List A) (at n : ℕ) → next ++ after ≡ drop at all → n ≤ length next → rest ≡ drop n next →
      rest ++ after ≡ drop (at + n) all
  drop-rest all next after rest at n reached within is =
      ap (λ xs. xs ++ after) is ∙ sym (drop-append-le n next after within) ∙ ap (drop n) reached ∙ drop-drop n at all

  -- a slice with the front of a list in its own front, after a write of the list's next elements behind that
  pub put_mid-next : (all next after start into part : List A) (at n : ℕ) → at ≤ length all → n ≤ length next →
      next ++ after ≡ drop at all → into ≡ take at all ++ drop at start →
      part ≡ take n next ++ drop n (take (length into - at) (drop at into)) →
      put_mid at (length into - at) into part ≡ take (at + n) all ++ drop (at + n) start
  put_mid-next all next after start into part at n inside within reached front written =
      let front_len = length-take-le at all inside in
      let old_front : take at into ≡ take at all = ap (take at) front ∙ take_at (take at all) (drop at start) at front_len in
      let old_rest : take (length into - at) (drop at into) ≡ drop at start =
      take_rest into at ∙ ap (drop at) front ∙ drop_at (take at all) (drop at start) at front_len in
      let elements : take n next ≡ take n (drop at all) = sym (take-append-le n next after within) ∙ ap (take n) reached in
      let part_is : part ≡ take n (drop at all) ++ drop (at + n) start =
      written ∙ ap₂ ◌++◌ elements (ap (drop n) old_rest ∙ drop-drop n at start) in
      let none : drop (length into - at) (drop at into) ≡ [] = drop_all (length into - at) (drop at into) (omega (arith, length-drop at into)) in
      ap₂ ◌++◌ old_front (ap₂ ◌++◌ part_is none ∙ append-nil _)
      ∙ sym (append_assoc (take at all) (take n (drop at all)) (drop (at + n) start))
      ∙ ap (λ xs. xs ++ drop (at + n) start) (sym (take-add at n all))

  -- a list that is a range and another list behind it: its first n lie in the range, and the rest goes on from there
  module _ (xs ys all : List A) (a b n : ℕ) (ordered : a + n ≤ b) (inside : b ≤ length xs) (is : slice_range xs a b ++ ys ≡ all) where
    parts : all ≡ take n (drop a xs) ++ (slice_range xs (a + n) b ++ ys)
    parts = sym is ∙ ap (λ zs. zs ++ ys) (slice_range-split xs a b n ordered) ∙ append_assoc (take n (drop a xs)) (slice_range xs (a + n) b) ys

    pub front_len : length (take n (drop a xs)) ≡ n
    front_len = length-take-le n (drop a xs) (simp length-drop (omega arith))

    pub range_inside : n ≤ length all
    range_inside = omega (arith, ap length parts, length-append (take n (drop a xs)) (slice_range xs (a + n) b ++ ys), front_len)

    pub range_front : take n all ≡ take n (drop a xs)
    range_front = ap (take n) parts ∙ take_at (take n (drop a xs)) (slice_range xs (a + n) b ++ ys) n front_len

    pub range_rest : slice_range xs (a + n) b ++ ys ≡ drop n all
    range_rest = sym (ap (drop n) parts ∙ drop_at (take n (drop a xs)) (slice_range xs (a + n) b ++ ys) n front_len)
