-- Lemmas on the length of a common prefix.
use Rattle.std.proofs.Common.{◌≡◌, ℕ, suc, ◌+◌, ◌-◌, ◌<◌, ◌≤◌, Bool, true, false, cond, List, [], ◌∷◌, ◌++◌, length, take, drop, refl, ap, ap₂, sym, ◌∙◌, arith, length-take-le}
use Rattle.std.specs.List.{common_prefix_len}
use Rattle.nfg_strand.proofs.Ranges.{take_split}

module _ {A : Type 0} (same : A → A → Bool) where
  -- where the first parts are as long and the same, the second parts go on
  pub common_prefix_len-append : (xs ys us vs : List A) → length xs ≡ length ys → common_prefix_len same xs ys ≡ length xs →
      common_prefix_len same (xs ++ us) (ys ++ vs) ≡ length xs + common_prefix_len same us vs
  common_prefix_len-append [] [] us vs lengths all = let none : 0 + common_prefix_len same us vs ≡ common_prefix_len same us vs = omega arith in sym none
  common_prefix_len-append [] (y ∷ ys) us vs lengths all = absurd (omega arith)
  common_prefix_len-append (x ∷ xs) [] us vs lengths all = absurd (omega arith)
  common_prefix_len-append (x ∷ xs) (y ∷ ys) us vs lengths all = by_first (same x y) all (common_prefix_len-append xs ys us vs (omega arith))
    where
      by_first : (b : Bool) → cond b (1 + common_prefix_len same xs ys) 0 ≡ suc (length xs)
          → (common_prefix_len same xs ys ≡ length xs → common_prefix_len same (xs ++ us) (ys ++ vs) ≡ length xs + common_prefix_len same us vs)
          → cond b (1 + common_prefix_len same (xs ++ us) (ys ++ vs)) 0 ≡ suc (length xs) + common_prefix_len same us vs
      by_first true all rest = let more = rest (omega arith) in omega arith
      by_first false all rest = absurd (omega arith)

  -- where the first parts differ, the second parts do not matter
  pub common_prefix_len-apart : (xs ys us vs : List A) → length xs ≡ length ys → common_prefix_len same xs ys < length xs →
      common_prefix_len same (xs ++ us) (ys ++ vs) ≡ common_prefix_len same xs ys
  common_prefix_len-apart [] [] us vs lengths apart = absurd (omega arith)
  common_prefix_len-apart [] (y ∷ ys) us vs lengths apart = absurd (omega arith)
  common_prefix_len-apart (x ∷ xs) [] us vs lengths apart = absurd (omega arith)
  common_prefix_len-apart (x ∷ xs) (y ∷ ys) us vs lengths apart = by_first (same x y) apart (common_prefix_len-apart xs ys us vs (omega arith))
    where
      by_first : (b : Bool) → cond b (1 + common_prefix_len same xs ys) 0 < suc (length xs)
          → (common_prefix_len same xs ys < length xs → common_prefix_len same (xs ++ us) (ys ++ vs) ≡ common_prefix_len same xs ys)
          → cond b (1 + common_prefix_len same (xs ++ us) (ys ++ vs)) 0 ≡ cond b (1 + common_prefix_len same xs ys) 0
      by_first true apart rest = ap (λ n. 1 + n) (rest (omega arith))
      by_first false apart rest = refl

  -- the same of the first m of the first n elements of two lists
  module _ (xs ys : List A) (m n : ℕ) (m-le-n : m ≤ n) (inside : m ≤ length xs) (other_inside : m ≤ length ys) where
    pub common_prefix_len-take : common_prefix_len same (take m xs) (take m ys) ≡ m →
        common_prefix_len same (take n xs) (take n ys) ≡ m + common_prefix_len same (take (n - m) (drop m xs)) (take (n - m) (drop m ys))
    common_prefix_len-take all =
        let len = length-take-le m xs inside in
        let other_len = length-take-le m ys other_inside in
        ap₂ (common_prefix_len same) (take_split m n xs m-le-n) (take_split m n ys m-le-n)
        ∙ common_prefix_len-append (take m xs) (take m ys) (take (n - m) (drop m xs)) (take (n - m) (drop m ys)) (len ∙ sym other_len) (all ∙ sym len)
        ∙ ap (λ k. k + common_prefix_len same (take (n - m) (drop m xs)) (take (n - m) (drop m ys))) len

    pub common_prefix_len-take_apart : common_prefix_len same (take m xs) (take m ys) < m →
        common_prefix_len same (take n xs) (take n ys) ≡ common_prefix_len same (take m xs) (take m ys)
    common_prefix_len-take_apart apart =
        let len = length-take-le m xs inside in
        let other_len = length-take-le m ys other_inside in
        ap₂ (common_prefix_len same) (take_split m n xs m-le-n) (take_split m n ys m-le-n)
        ∙ common_prefix_len-apart (take m xs) (take m ys) (take (n - m) (drop m xs)) (take (n - m) (drop m ys)) (len ∙ sym other_len) (omega arith)
