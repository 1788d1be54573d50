-- The order of texts that begin with the same clusters is that of what comes after these.
use Rattle.std.proofs.Common.{◌≡◌, ℕ, suc, ◌+◌, ◌≤◌, List, [], ◌∷◌, ◌++◌, length, take, drop, Bool, true, false, cond, ℤ, Equal, refl, sym, ap, ap₂, ◌∙◌, arith}
use Rattle.std.specs.List.{common_prefix_len}
use Rattle.std.specs.Cmp.Lexicographic.{slice_cmp}
use Rattle.std.specs.Ordering.{nat_cmp, int_eq, ordering_then}
use Rattle.std.proofs.lemmas.Bool.{le-ltb, eq-eqb}
use Rattle.std.proofs.lemmas.Bool.Decides.{Decides-int_eq}
use Rattle.std.proofs.lemmas.List.{take-take, take-append-drop, length-take-le}
use Rattle.std.proofs.lemmas.List.Sums.{common_prefix_len-le}
use Rattle.nfg_text.specs.Text.{text_of}
use Rattle.nfg_text.specs.Operations.{text_order}
use Rattle.nfg_ops.proofs.Spelling.{text_of-append}

nat_cmp-same : (x : ℕ) → nat_cmp x x ≡ Equal
nat_cmp-same x = let below = le-ltb x x (omega arith) in let same = eq-eqb x x refl in rw (below, same) refl

slice_cmp-append : (front rest other : List ℕ) → slice_cmp nat_cmp (front ++ rest) (front ++ other) ≡ slice_cmp nat_cmp rest other
slice_cmp-append [] rest other = refl
slice_cmp-append (x ∷ front) rest other = ap (λ o. ordering_then o (slice_cmp nat_cmp (front ++ rest) (front ++ other))) (nat_cmp-same x) ∙ slice_cmp-append front rest other

pub order-behind : (n : ℕ) (left right : List (List ℕ)) → take n left ≡ take n right → text_order (drop n left) (drop n right) ≡ text_order left right
order-behind n left right same =
    let first = sym (text_of-append (take n left) (drop n left)) ∙ ap text_of (take-append-drop n left) in
    let second = ap (λ cs. text_of cs ++ text_of (drop n right)) same ∙ sym (text_of-append (take n right) (drop n right)) ∙ ap text_of (take-append-drop n right) in
    sym (slice_cmp-append (text_of (take n left)) (text_of (drop n left)) (text_of (drop n right))) ∙ ap₂ (slice_cmp nat_cmp) first second

-- what two lists have in common from the front on
pub common-take : (xs ys : List ℤ) → take (common_prefix_len int_eq xs ys) xs ≡ take (common_prefix_len int_eq xs ys) ys
common-take [] [] = refl
common-take [] (y ∷ ys) = refl
common-take (x ∷ xs) [] = refl
common-take (x ∷ xs) (y ∷ ys) = by (int_eq x y) refl (common-take xs ys)
  where
    by : (b : Bool) → int_eq x y ≡ b → take (common_prefix_len int_eq xs ys) xs ≡ take (common_prefix_len int_eq xs ys) ys
        → take (cond b (1 + common_prefix_len int_eq xs ys) 0) (x ∷ xs) ≡ take (cond b (1 + common_prefix_len int_eq xs ys) 0) (y ∷ ys)
    by true e rest =
        let more : 1 + common_prefix_len int_eq xs ys ≡ suc (common_prefix_len int_eq xs ys) = omega arith in
        ap (λ n. take n (x ∷ xs)) more ∙ ap₂ ◌∷◌ ((Decides-int_eq x y).0 e) rest ∙ ap (λ n. take n (y ∷ ys)) (sym more)
    by false e rest = refl

-- the same of the first `count` elements of both
pub common-front : (xs ys : List ℤ) (count n : ℕ) → n ≤ count → n ≡ common_prefix_len int_eq (take count xs) (take count ys) → take n xs ≡ take n ys
common-front xs ys count n few is =
    sym (take-take n count xs few) ∙ ap (λ k. take k (take count xs)) is ∙ common-take (take count xs) (take count ys)
    ∙ ap (λ k. take k (take count ys)) (sym is) ∙ take-take n count ys few

pub common-within : (xs ys : List ℤ) (count n : ℕ) → count ≤ length xs → n ≡ common_prefix_len int_eq (take count xs) (take count ys) → n ≤ count
common-within xs ys count n inside is =
    let most = (common_prefix_len-le int_eq (take count xs) (take count ys)).0 in
    let long = length-take-le count xs inside in
    omega (arith, is, most, long)
