-- Places that a search for one number passes over.
use Rattle.std.proofs.Common.{◌≡◌, ℕ, zero, suc, ◌+◌, ◌-◌, ◌<◌, ◌≤◌, List, [], ◌∷◌, length, slice_range, Bool, true, false, cond, Some, None, ℤ, pos, refl, sym, ap, ◌∙◌, arith, drop, length-drop, length-take-le}
use Rattle.std.specs.List.{position_from}
use Rattle.std.specs.Ordering.{int_eq}
use Rattle.std.proofs.lemmas.Bool.{false_from_ne_true, both_ways}
use Rattle.std.proofs.lemmas.List.{get_or-take, get_or-drop}
use Rattle.std.proofs.lemmas.Bool.Decides.{Decides-int_eq}
use Rattle.nfg_ops.specs.Cuts.{number_at}
use Rattle.nfg_ops.specs.Places.{stand_at}
use Rattle.nfg_ops.proofs.Numbers.{stand-reads}

-- before the first place that passes none does
pub position-none : (test : ℤ → Bool) (from : ℕ) (xs : List ℤ) → position_from test from xs ≡ None → (k : ℕ) → k < length xs → test (number_at xs k) ≡ false
position-none test from [] none k never = absurd (omega (arith, never))
position-none test from (x ∷ xs) none k below = by (test x) refl none (λ rest j less. position-none test (from + 1) xs rest j less) k below
  where
    by : (b : Bool) → test x ≡ b → cond b (Some from) (position_from test (from + 1) xs) ≡ None
        → (position_from test (from + 1) xs ≡ None → (j : ℕ) → j < length xs → test (number_at xs j) ≡ false)
        → (k : ℕ) → k < suc (length xs) → test (number_at (x ∷ xs) k) ≡ false
    by true e none rest k below = cc
    by false e none rest zero below = e
    by false e none rest (suc k) below = rest none k (omega (arith, below))

pub record FirstFrom (test : ℤ → Bool) (from : ℕ) (xs : List ℤ) (place : ℕ) : Type 0 where
  pub low : from ≤ place
  pub high : place < from + length xs
  pub before : (k : ℕ) → from + k < place → test (number_at xs k) ≡ false

pub position-some : (test : ℤ → Bool) (from : ℕ) (xs : List ℤ) (place : ℕ) → position_from test from xs ≡ Some place → FirstFrom test from xs place
position-some test from [] place never = cc
position-some test from (x ∷ xs) place some = by (test x) refl some (λ rest. position-some test (from + 1) xs place rest)
  where
    by : (b : Bool) → test x ≡ b → cond b (Some from) (position_from test (from + 1) xs) ≡ Some place
        → (position_from test (from + 1) xs ≡ Some place → FirstFrom test (from + 1) xs place) → FirstFrom test from (x ∷ xs) place
    by true e some rest =
        let here : from ≡ place = cc in
        record { low = omega (arith, here); high = omega (arith, here); before = λ k less. absurd (omega (arith, here, less)) }
    by false e some rest =
        let is = rest some in
        let low = is.low in
        let high = is.high in
        record { low = omega (arith, low); high = omega (arith, high); before = λ k less. earlier is k less }
      where
        earlier : FirstFrom test (from + 1) xs place → (k : ℕ) → from + k < place → test (number_at (x ∷ xs) k) ≡ false
        earlier is zero less = e
        earlier is (suc k) less = is.before k (omega (arith, less))

-- no needle stands where its number at a place is another one
pub passed-over : (xs ys : List ℤ) (rare k : ℕ) (sought : ℤ) → rare < length ys → sought ≡ number_at ys rare → int_eq (number_at xs (k + rare)) sought ≡ false
    → stand_at xs ys k ≡ false
passed-over xs ys rare k sought inside is other = false_from_ne_true (stand_at xs ys k) (λ occurs.
    both_ways (int_eq (number_at xs (k + rare)) sought) other
    ((Decides-int_eq (number_at xs (k + rare)) sought).1 ((stand-reads xs ys k occurs).1 rare inside ∙ sym is)))

range-number : (xs : List ℤ) (start until k : ℕ) → k < until - start → number_at (slice_range xs start until) k ≡ number_at xs (start + k)
range-number xs start until k below = get_or-take (until - start) (drop start xs) k (pos 0) below ∙ get_or-drop start xs k (pos 0)

range-size : (xs : List ℤ) (start until : ℕ) → until ≤ length xs → length (slice_range xs start until) ≡ until - start
range-size xs start until inside = let behind = length-drop start xs in length-take-le (until - start) (drop start xs) (omega (arith, behind, inside))

-- the needle's number at the rare place is nowhere from `place` to `last`
pub none-stands : (xs ys : List ℤ) (rare place last : ℕ) (sought : ℤ) → rare < length ys → sought ≡ number_at ys rare → last + length ys ≤ length xs
    → position_from (λ y. int_eq y sought) (place + rare) (slice_range xs (place + rare) (last + rare + 1)) ≡ None
    → (k : ℕ) → place ≤ k → k ≤ last → stand_at xs ys k ≡ false
none-stands xs ys rare place last sought inside is room none k low high =
    let start = place + rare in
    let until = last + rare + 1 in
    let size = range-size xs start until (omega (arith, inside, room)) in
    let there : start + (k - place) ≡ k + rare = omega (arith, low) in
    let fails = position-none (λ y. int_eq y sought) start (slice_range xs start until) none (k - place) (omega (arith, size, high, low)) in
    passed-over xs ys rare k sought inside is
    (ap (λ v. int_eq v sought) (ap (number_at xs) (sym there) ∙ sym (range-number xs start until (k - place) (omega (arith, high, low)))) ∙ fails)

-- it is first at `at`
pub first-at : (xs ys : List ℤ) (rare place last : ℕ) (sought : ℤ) (at : ℕ) → rare < length ys → last + length ys ≤ length xs → place ≤ last
    → position_from (λ y. int_eq y sought) (place + rare) (slice_range xs (place + rare) (last + rare + 1)) ≡ Some at
    → (place + rare ≤ at) × (at ≤ last + rare)
first-at xs ys rare place last sought at inside room ordered some =
    let start = place + rare in
    let until = last + rare + 1 in
    let size = range-size xs start until (omega (arith, inside, room)) in
    let is = position-some (λ y. int_eq y sought) start (slice_range xs start until) at some in
    let low = is.low in
    let high = is.high in
    (low, omega (arith, high, size, ordered))

-- so the needle stands nowhere before
pub none-before : (xs ys : List ℤ) (rare place last : ℕ) (sought : ℤ) (at : ℕ) → rare < length ys → sought ≡ number_at ys rare → last + length ys ≤ length xs → place ≤ last
    → position_from (λ y. int_eq y sought) (place + rare) (slice_range xs (place + rare) (last + rare + 1)) ≡ Some at
    → (k : ℕ) → place ≤ k → k < at - rare → stand_at xs ys k ≡ false
none-before xs ys rare place last sought at inside is room ordered some k low high =
    let start = place + rare in
    let until = last + rare + 1 in
    let within = (first-at xs ys rare place last sought at inside room ordered some).1 in
    let found = position-some (λ y. int_eq y sought) start (slice_range xs start until) at some in
    let there : start + (k - place) ≡ k + rare = omega (arith, low) in
    let fails = found.before (k - place) (omega (arith, high, low)) in
    passed-over xs ys rare k sought inside is
    (ap (λ v. int_eq v sought) (ap (number_at xs) (sym there) ∙ sym (range-number xs start until (k - place) (omega (arith, high, low, within)))) ∙ fails)
