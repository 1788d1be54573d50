-- Members of lists of texts, and how many different ones there are.
use Rattle.std.proofs.Common.{◌≡◌, ℕ, zero, suc, ◌<◌, ◌≤◌, Bool, true, false, ◌||◌, ◌&&◌, List, [], ◌∷◌, ◌++◌, length, get_or, slice_get, filter, bytes_eq, Some, refl, sym, ap, ◌∙◌, cond, arith}
use Rattle.std.proofs.lemmas.Bool.{false_from_ne_true}
use Rattle.std.proofs.lemmas.List.Folds.{list_any-append}
use Rattle.std.proofs.lemmas.Slice.Eq.{bytes_eq-Decides}
use Rattle.std.proofs.lemmas.Map.Made.{length-le_from_is_member, length-from_keys, is_member-filter, IsDistinct-from_count}
use Rattle.std.proofs.lemmas.Map.Keys.{IsDistinct-from_apart, IsDistinct-push}
use Rattle.std.specs.Cmp.{IsEquivalence}
use Rattle.std.specs.List.{IsDistinct}
use Rattle.std.specs.Set.{is_member, distinct_count, unique_keys}
use Rattle.nfg_syn.specs.KnownLaws.{same_text}

-- tests that are true together are one
pub both_ways : (a b : Bool) → (a ≡ true → b ≡ true) → (b ≡ true → a ≡ true) → a ≡ b
both_ways true b to from = sym (to refl)
both_ways false true to from = from refl
both_ways false false to from = refl

pub or-right : (a b : Bool) → b ≡ true → (a || b) ≡ true
or-right true b e = refl
or-right false b e = e

pub or-left : (a b : Bool) → a ≡ true → (a || b) ≡ true
or-left true b e = refl
or-left false b e = cc

pub bytes_eq-true : (x y : List ℕ) → x ≡ y → bytes_eq x y ≡ true
bytes_eq-true x y e = (bytes_eq-Decides x y).1 e

bytes_eq-same : (x y : List ℕ) → bytes_eq x y ≡ true → x ≡ y
bytes_eq-same x y e = (bytes_eq-Decides x y).0 e

pub texts_alike : IsEquivalence bytes_eq
texts_alike = record {
  refl = λ x. bytes_eq-true x x refl;
  symm = λ x y. both_ways (bytes_eq x y) (bytes_eq y x) (λ e. bytes_eq-true y x (sym (bytes_eq-same x y e))) (λ e. bytes_eq-true x y (sym (bytes_eq-same y x e)));
  congr = λ x y z e. ap (λ v. bytes_eq v z) (bytes_eq-same x y e);
}

pub is_member-at : (xs : List (List ℕ)) (t : List ℕ) (k : ℕ) → slice_get xs k ≡ Some t → is_member bytes_eq xs t ≡ true
is_member-at [] t k e = cc
is_member-at (x ∷ xs) t zero e = or-left (bytes_eq t x) (is_member bytes_eq xs t) (bytes_eq-true t x (sym (same_text x t e)))
is_member-at (x ∷ xs) t (suc k) e = or-right (bytes_eq t x) (is_member bytes_eq xs t) (is_member-at xs t k e)

place_among : (xs : List (List ℕ)) (t x : List ℕ) (same : Bool) → bytes_eq t x ≡ same → is_member bytes_eq (x ∷ xs) t ≡ true
    → (is_member bytes_eq xs t ≡ true → (k : ℕ) × (slice_get xs k ≡ Some t)) → (k : ℕ) × (slice_get (x ∷ xs) k ≡ Some t)
place_among xs t x true s e further = (0, ap Some (sym (bytes_eq-same t x s)))
place_among xs t x false s e further = let place = further (rw s at e) in (suc place.0, place.1)

pub is_member-place : (xs : List (List ℕ)) (t : List ℕ) → is_member bytes_eq xs t ≡ true → (k : ℕ) × (slice_get xs k ≡ Some t)
is_member-place [] t e = cc
is_member-place (x ∷ xs) t e = place_among xs t x (bytes_eq t x) refl e (is_member-place xs t)

-- a member of the first list, or of the second
pub is_member-front : (xs ys : List (List ℕ)) (t : List ℕ) → is_member bytes_eq xs t ≡ true → is_member bytes_eq (xs ++ ys) t ≡ true
is_member-front xs ys t e = list_any-append (bytes_eq t) xs ys ∙ or-left (is_member bytes_eq xs t) (is_member bytes_eq ys t) e

pub is_member-back : (xs ys : List (List ℕ)) (t : List ℕ) → is_member bytes_eq ys t ≡ true → is_member bytes_eq (xs ++ ys) t ≡ true
is_member-back xs ys t e = list_any-append (bytes_eq t) xs ys ∙ or-right (is_member bytes_eq xs t) (is_member bytes_eq ys t) e

pub is_member-kept : (test : List ℕ → Bool) (xs : List (List ℕ)) (t : List ℕ)
    → is_member bytes_eq (filter test xs) t ≡ (is_member bytes_eq xs t && test t)
is_member-kept test xs t = is_member-filter texts_alike test t (λ x e. ap test (bytes_eq-same t x e)) xs

slice_get-inside : (xs : List (List ℕ)) (i : ℕ) (d : List ℕ) → i < length xs → slice_get xs i ≡ Some (get_or xs i d)
slice_get-inside [] i d within = absurd (omega (arith, within))
slice_get-inside (x ∷ xs) zero d within = refl
slice_get-inside (x ∷ xs) (suc i) d within = slice_get-inside xs i d (omega (arith, within))

-- texts at different places differ
pub IsDistinct-from_places : (xs : List (List ℕ)) → ((a b : ℕ) (t : List ℕ) → slice_get xs a ≡ Some t → slice_get xs b ≡ Some t → a ≡ b)
    → IsDistinct bytes_eq xs
IsDistinct-from_places xs different = IsDistinct-from_apart bytes_eq xs (λ i j d before within.
    false_from_ne_true (bytes_eq (get_or xs i d) (get_or xs j d)) (λ yes.
    let same = bytes_eq-same (get_or xs i d) (get_or xs j d) yes in
    let first : slice_get xs i ≡ Some (get_or xs i d) = slice_get-inside xs i d (omega (arith, before, within)) in
    let second : slice_get xs j ≡ Some (get_or xs i d) = slice_get-inside xs j d within ∙ ap Some (sym same) in
    let one = different i j (get_or xs i d) first second in
    absurd (omega (arith, one, before))))

is_member-unique_cons : (ys : List (List ℕ)) (q y : List ℕ) (b : Bool) → is_member bytes_eq ys y ≡ b
    → is_member bytes_eq (unique_keys bytes_eq ys) q ≡ is_member bytes_eq ys q
    → is_member bytes_eq (cond b (unique_keys bytes_eq ys) (y ∷ unique_keys bytes_eq ys)) q ≡ (bytes_eq q y || is_member bytes_eq ys q)
is_member-unique_cons ys q y true e again = both_ways _ _
    (λ yes. or-right (bytes_eq q y) (is_member bytes_eq ys q) (sym again ∙ yes))
    (λ yes. by (bytes_eq q y) refl yes)
  where
    by : (same : Bool) → bytes_eq q y ≡ same → (same || is_member bytes_eq ys q) ≡ true → is_member bytes_eq (unique_keys bytes_eq ys) q ≡ true
    by true s more = again ∙ ap (is_member bytes_eq ys) (bytes_eq-same q y s) ∙ e
    by false s more = again ∙ more
is_member-unique_cons ys q y false e again = ap (λ b. bytes_eq q y || b) again

-- the different ones are all there
is_member-unique : (ys : List (List ℕ)) (q : List ℕ) → is_member bytes_eq (unique_keys bytes_eq ys) q ≡ is_member bytes_eq ys q
is_member-unique [] q = refl
is_member-unique (y ∷ ys) q = is_member-unique_cons ys q y (is_member bytes_eq ys y) refl (is_member-unique ys q)

-- texts that differ and are all members of a list are at most as many as its different ones
pub length-le_distinct : (xs ys : List (List ℕ)) → IsDistinct bytes_eq xs → ((q : List ℕ) → is_member bytes_eq xs q ≡ true → is_member bytes_eq ys q ≡ true)
    → length xs ≤ distinct_count bytes_eq ys
length-le_distinct xs ys distinct within =
    length-le_from_is_member texts_alike xs (unique_keys bytes_eq ys) distinct (λ q yes. is_member-unique ys q ∙ within q yes)

-- as many as the different ones where both have the same members
pub length-distinct : (xs ys : List (List ℕ)) → IsDistinct bytes_eq xs → ((q : List ℕ) → is_member bytes_eq xs q ≡ is_member bytes_eq ys q)
    → length xs ≡ distinct_count bytes_eq ys
length-distinct xs ys distinct same = length-from_keys texts_alike xs ys distinct same

-- with one more text
pub IsDistinct-more : (xs : List (List ℕ)) (t : List ℕ) → IsDistinct bytes_eq xs → is_member bytes_eq xs t ≡ false → IsDistinct bytes_eq (xs ++ t ∷ [])
IsDistinct-more xs t distinct new = IsDistinct-push texts_alike xs t distinct new

-- each of the different ones is there once
count-unique : (xs : List (List ℕ)) → distinct_count bytes_eq (unique_keys bytes_eq xs) ≡ length (unique_keys bytes_eq xs)
count-unique [] = refl
count-unique (x ∷ xs) = by (is_member bytes_eq xs x) refl (count-unique xs)
  where
    by : (b : Bool) → is_member bytes_eq xs x ≡ b → distinct_count bytes_eq (unique_keys bytes_eq xs) ≡ length (unique_keys bytes_eq xs)
        → distinct_count bytes_eq (cond b (unique_keys bytes_eq xs) (x ∷ unique_keys bytes_eq xs)) ≡ length (cond b (unique_keys bytes_eq xs) (x ∷ unique_keys bytes_eq xs))
    by true e again = again
    by false e again = let apart : is_member bytes_eq (unique_keys bytes_eq xs) x ≡ false = is_member-unique xs x ∙ e in rw apart (ap (λ k. suc k) again)

-- texts that are all members of a list are no more different ones than it is long
pub distinct_count-within : (xs ys : List (List ℕ)) → ((q : List ℕ) → is_member bytes_eq xs q ≡ true → is_member bytes_eq ys q ≡ true)
    → distinct_count bytes_eq xs ≤ length ys
distinct_count-within xs ys within =
    length-le_from_is_member texts_alike (unique_keys bytes_eq xs) ys (IsDistinct-from_count texts_alike (unique_keys bytes_eq xs) (count-unique xs))
    (λ q yes. within q (sym (is_member-unique xs q) ∙ yes))
