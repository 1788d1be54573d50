-- Numbers at places: what a comparison of ranges says of them, and when numbers stand in numbers.
use Rattle.std.proofs.Common.{◌≡◌, ℕ, zero, suc, ◌+◌, ◌-◌, ◌<◌, ◌≤◌, List, [], ◌∷◌, length, take, drop, slice_range, Bool, true, false, cond, ℤ, pos, refl, sym, ap, subst, ◌∙◌, arith, length-drop, length-take-le}
use Rattle.std.specs.List.{common_prefix_len}
use Rattle.std.specs.Cmp.Rules.{signed_items}
use Rattle.std.specs.Ordering.{int_eq}
use Rattle.std.proofs.lemmas.Bool.{and_parts, and_from, leb-true, le-leb, false≢true}
use Rattle.std.proofs.lemmas.Bool.Decides.{Decides-int_eq}
use Rattle.std.proofs.lemmas.List.{get_or-take, get_or-drop, ext_get_or}
use Rattle.std.proofs.lemmas.List.Sums.{common_prefix_len-le}
use Rattle.nfg_ops.specs.Cuts.{number_at}
use Rattle.nfg_ops.specs.Places.{stand_at}

range-at : (xs : List ℤ) (start n k : ℕ) → k < n → number_at (slice_range xs start (start + n)) k ≡ number_at xs (start + k)
range-at xs start n k below =
    get_or-take (start + n - start) (drop start xs) k (pos 0) (omega (arith, below)) ∙ get_or-drop start xs k (pos 0)

range-length : (xs : List ℤ) (start n : ℕ) → start + n ≤ length xs → length (slice_range xs start (start + n)) ≡ n
range-length xs start n inside =
    let behind = length-drop start xs in
    let exact : start + n - start ≡ n = omega arith in
    length-take-le (start + n - start) (drop start xs) (omega (arith, behind, inside)) ∙ exact

common-same : (xs ys : List ℤ) (k : ℕ) → k < common_prefix_len int_eq xs ys → number_at xs k ≡ number_at ys k
common-same [] ys k never = absurd (omega (arith, never))
common-same (x ∷ xs) [] k never = absurd (omega (arith, never))
common-same (x ∷ xs) (y ∷ ys) k below = by (int_eq x y) refl k (λ j less. common-same xs ys j less) below
  where
    by : (b : Bool) → int_eq x y ≡ b → (k : ℕ) → ((j : ℕ) → j < common_prefix_len int_eq xs ys → number_at xs j ≡ number_at ys j)
        → k < cond b (1 + common_prefix_len int_eq xs ys) 0 → number_at (x ∷ xs) k ≡ number_at (y ∷ ys) k
    by true e zero rest below = (Decides-int_eq x y).0 e
    by true e (suc k) rest below = rest k (omega (arith, below))
    by false e k rest never = absurd (omega (arith, never))

common-differs : (xs ys : List ℤ) → common_prefix_len int_eq xs ys < length xs → common_prefix_len int_eq xs ys < length ys
    → number_at xs (common_prefix_len int_eq xs ys) ≡ number_at ys (common_prefix_len int_eq xs ys) → ⊥
common-differs [] ys never other_inside = absurd (omega (arith, never))
common-differs (x ∷ xs) [] inside never = absurd (omega (arith, never))
common-differs (x ∷ xs) (y ∷ ys) inside other_inside = by (int_eq x y) refl (λ a b. common-differs xs ys a b) inside other_inside
  where
    by : (b : Bool) → int_eq x y ≡ b
        → (common_prefix_len int_eq xs ys < length xs → common_prefix_len int_eq xs ys < length ys → number_at xs (common_prefix_len int_eq xs ys) ≡ number_at ys (common_prefix_len int_eq xs ys) → ⊥)
        → cond b (1 + common_prefix_len int_eq xs ys) 0 < suc (length xs) → cond b (1 + common_prefix_len int_eq xs ys) 0 < suc (length ys)
        → number_at (x ∷ xs) (cond b (1 + common_prefix_len int_eq xs ys) 0) ≡ number_at (y ∷ ys) (cond b (1 + common_prefix_len int_eq xs ys) 0) → ⊥
    by true e rest inside other_inside same =
        let more : 1 + common_prefix_len int_eq xs ys ≡ suc (common_prefix_len int_eq xs ys) = omega arith in
        rest (omega (arith, inside)) (omega (arith, other_inside))
        (subst (λ n. number_at (x ∷ xs) n ≡ number_at (y ∷ ys) n) more same)
    by false e rest inside other_inside same = false≢true (sym e ∙ (Decides-int_eq x y).1 same)

-- what the comparison of two ranges of n says
pub record Compared (xs ys : List ℤ) (i j n result : ℕ) : Type 0 where
  pub most : result ≤ n
  pub same : (k : ℕ) → k < result → number_at xs (i + k) ≡ number_at ys (j + k)
  pub differs : result < n → number_at xs (i + result) ≡ number_at ys (j + result) → ⊥

pub compared : (xs ys : List ℤ) (i j n result : ℕ) → i + n ≤ length xs → j + n ≤ length ys
    → result ≡ common_prefix_len int_eq (slice_range xs i (i + n)) (slice_range ys j (j + n)) → Compared xs ys i j n result
compared xs ys i j n result inside other_inside is =
    let first = slice_range xs i (i + n) in
    let second = slice_range ys j (j + n) in
    let long = range-length xs i n inside in
    let other_long = range-length ys j n other_inside in
    let fit = (common_prefix_len-le int_eq first second).0 in
    let most : result ≤ n = omega (arith, is, fit, long) in
    record {
      most = most;
      same = λ k below. sym (range-at xs i n k (omega (arith, below, most))) ∙ common-same first second k (omega (arith, below, is))
          ∙ range-at ys j n k (omega (arith, below, most));
      differs = λ below same. common-differs first second (omega (arith, below, is, long)) (omega (arith, below, is, other_long))
          (subst (λ r. number_at first r ≡ number_at second r) is (range-at xs i n result below ∙ same ∙ sym (range-at ys j n result below)));
    }

-- the numbers stand at a place exactly where each of them does
pub stand-reads : (xs ys : List ℤ) (place : ℕ) → stand_at xs ys place ≡ true
    → (place + length ys ≤ length xs) × ((k : ℕ) → k < length ys → number_at xs (place + k) ≡ number_at ys k)
stand-reads xs ys place stands =
    let parts = and_parts _ _ stands in
    let same = (signed_items (take (length ys) (drop place xs)) ys).0 parts.1 in (
      leb-true (place + length ys) (length xs) parts.0,
      λ k below. sym (get_or-take (length ys) (drop place xs) k (pos 0) below ∙ get_or-drop place xs k (pos 0)) ∙ ap (λ l. number_at l k) same,
    )

pub stand-from : (xs ys : List ℤ) (place : ℕ) → place + length ys ≤ length xs → ((k : ℕ) → k < length ys → number_at xs (place + k) ≡ number_at ys k)
    → stand_at xs ys place ≡ true
stand-from xs ys place inside reads =
    let behind = length-drop place xs in
    let long : length (take (length ys) (drop place xs)) ≡ length ys = length-take-le (length ys) (drop place xs) (omega (arith, behind, inside)) in
    and_from _ _ (le-leb (place + length ys) (length xs) inside)
    ((signed_items (take (length ys) (drop place xs)) ys).1 (ext_get_or (pos 0) (take (length ys) (drop place xs)) ys long
    (λ k below. get_or-take (length ys) (drop place xs) k (pos 0) (omega (arith, below, long)) ∙ get_or-drop place xs k (pos 0) ∙ reads k (omega (arith, below, long)))))
