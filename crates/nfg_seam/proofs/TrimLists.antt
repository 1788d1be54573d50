-- How much lists have in common from the front on, in parts.
use Rattle.std.proofs.Common.{◌≡◌, ℕ, zero, suc, ◌+◌, ◌-◌, ◌<◌, ◌≤◌, min, Bool, true, false, cond, List, [], ◌∷◌, ◌++◌, length, take, drop, slice_range, reverse, refl, sym, ap, ap₂, ◌∙◌, arith, length-drop}
use Rattle.std.proofs.Math.Seq.{take-length, take-append_seam}
use Rattle.std.proofs.lemmas.List.{take-append-drop, drop-drop, length-reverse, reverse-append, reverse-reverse}
use Rattle.std.specs.Bool.{Decides}
use Rattle.std.proofs.lemmas.List.Sums.{common_prefix_len-le}
use Rattle.std.specs.List.{common_prefix_len}
use mathlib.Core.Logic.{dite}
use native.Mathlib.Decide.{ℕ_discrete}

-- what both begin with
pub front-keep : {X : Type 0} (e : X → X → Bool) → ((x : X) → e x x ≡ true) → (front xs ys : List X)
    → common_prefix_len e (front ++ xs) (front ++ ys) ≡ length front + common_prefix_len e xs ys
front-keep e same [] xs ys = omega arith
front-keep e same (x ∷ front) xs ys =
    let rest = front-keep e same front xs ys in
    ap (λ b. cond b (1 + common_prefix_len e (front ++ xs) (front ++ ys)) 0) (same x) ∙ omega (arith, rest)

within_one : (b : Bool) (m n p : ℕ) → cond b (1 + m) 0 < suc p → (m < p → n ≡ m) → cond b (1 + n) 0 ≡ cond b (1 + m) 0
within_one true m n p below rest = ap (λ k. 1 + k) (rest (omega (arith, below)))
within_one false m n p below rest = refl

-- what stops within the first part of a list
pub front-within : {X : Type 0} (e : X → X → Bool) (xs ys zs : List X) → common_prefix_len e xs ys < length ys
    → common_prefix_len e xs (ys ++ zs) ≡ common_prefix_len e xs ys
front-within e [] ys zs below = refl
front-within e (x ∷ xs) [] zs below = absurd (omega (arith, below))
front-within e (x ∷ xs) (y ∷ ys) zs below =
    within_one (e x y) (common_prefix_len e xs ys) (common_prefix_len e xs (ys ++ zs)) (length ys) below (λ less. front-within e xs ys zs less)

past_one : (b : Bool) (m n p q : ℕ) → cond b (1 + m) 0 ≡ suc p → (m ≡ p → n ≡ p + q) → cond b (1 + n) 0 ≡ suc p + q
past_one true m n p q all rest = let more = rest (omega (arith, all)) in omega (arith, more)
past_one false m n p q never rest = absurd (omega (arith, never))

-- and what takes all of it
pub front-past : {X : Type 0} (e : X → X → Bool) (xs ys zs : List X) → common_prefix_len e xs ys ≡ length ys
    → common_prefix_len e xs (ys ++ zs) ≡ length ys + common_prefix_len e (drop (length ys) xs) zs
front-past e [] [] zs whole = omega arith
front-past e [] (y ∷ ys) zs whole = absurd (omega (arith, whole))
front-past e (x ∷ xs) [] zs whole = omega arith
front-past e (x ∷ xs) (y ∷ ys) zs whole =
    past_one (e x y) (common_prefix_len e xs ys) (common_prefix_len e xs (ys ++ zs)) (length ys) (common_prefix_len e (drop (length ys) xs) zs)
    whole (λ all. front-past e xs ys zs all)

-- a list that goes on has as much in common, up to a bound within its first part
pub front-bounded : {X : Type 0} (e : X → X → Bool) (xs ys zs : List X) (most : ℕ) → most ≤ length ys
    → min (common_prefix_len e xs (ys ++ zs)) most ≡ min (common_prefix_len e xs ys) most
front-bounded e xs ys zs most low =
    let within = (common_prefix_len-le e xs ys).1 in
    dite (ℕ_discrete (common_prefix_len e xs ys) (length ys))
    (λ whole. let past = front-past e xs ys zs whole in omega (arith, past, whole, low))
    (λ part. ap (λ n. min n most) (front-within e xs ys zs (omega (arith, within, part))))

-- all of what a list has in common lies in the first part of another where nothing goes on behind it
pub front-stops : {X : Type 0} (e : X → X → Bool) (xs ys zs : List X)
    → (common_prefix_len e xs ys ≡ length ys → common_prefix_len e (drop (length ys) xs) zs ≡ 0)
    → common_prefix_len e xs (ys ++ zs) ≡ common_prefix_len e xs ys
front-stops e xs ys zs stops =
    let within = (common_prefix_len-le e xs ys).1 in
    dite (ℕ_discrete (common_prefix_len e xs ys) (length ys))
    (λ whole. let past = front-past e xs ys zs whole in let none = stops whole in omega (arith, past, whole, none))
    (λ part. front-within e xs ys zs (omega (arith, within, part)))

one_more : (b : Bool) (n k : ℕ) → suc n ≤ cond b (1 + k) 0 → (b ≡ true) × (n ≤ k)
one_more true n k low = (refl, omega (arith, low))
one_more false n k never = absurd (omega (arith, never))

-- what is in common is the same in both
pub front-taken : {X : Type 0} (e : X → X → Bool) → ((x y : X) → Decides (e x y) (x ≡ y)) → (n : ℕ) (xs ys : List X) → n ≤ common_prefix_len e xs ys → take n xs ≡ take n ys
front-taken e decides zero xs ys low = refl
front-taken e decides (suc n) [] ys low = absurd (omega (arith, low))
front-taken e decides (suc n) (x ∷ xs) [] low = absurd (omega (arith, low))
front-taken e decides (suc n) (x ∷ xs) (y ∷ ys) low =
    let more = one_more (e x y) n (common_prefix_len e xs ys) low in
    ap₂ (λ z zs. z ∷ zs) ((decides x y).0 more.0) (front-taken e decides n xs ys more.1)

-- the last of a list are the first of it, read from its end
turned-taken : {X : Type 0} (xs : List X) (n : ℕ) → n ≤ length xs → reverse (take n (reverse xs)) ≡ drop (length xs - n) xs
turned-taken xs n low =
    let at = length xs - n in
    let long : length (reverse (drop at xs)) ≡ n = length-reverse (drop at xs) ∙ length-drop at xs ∙ omega (arith, low) in
    ap (λ t. reverse (take n t)) (ap reverse (sym (take-append-drop at xs)) ∙ reverse-append (take at xs) (drop at xs))
    ∙ ap (λ m. reverse (take m (reverse (drop at xs) ++ reverse (take at xs)))) (sym long)
    ∙ ap reverse (take-append_seam (reverse (drop at xs)) (reverse (take at xs)))
    ∙ reverse-reverse (drop at xs)

pub back-taken : {X : Type 0} (e : X → X → Bool) → ((x y : X) → Decides (e x y) (x ≡ y)) → (n : ℕ) (xs ys : List X) → n ≤ common_prefix_len e (reverse xs) (reverse ys)
    → drop (length xs - n) xs ≡ drop (length ys - n) ys
back-taken e decides n xs ys low =
    let within = common_prefix_len-le e (reverse xs) (reverse ys) in
    let long_xs = length-reverse xs in
    let long_ys = length-reverse ys in
    sym (turned-taken xs n (omega (arith, low, within.0, long_xs)))
    ∙ ap reverse (front-taken e decides n (reverse xs) (reverse ys) low)
    ∙ turned-taken ys n (omega (arith, low, within.1, long_ys))

-- a list in three parts, of which others have the first and the last
pub three-parts : {X : Type 0} (e : X → X → Bool) → ((x y : X) → Decides (e x y) (x ≡ y)) → (a b all : List X) (front back : ℕ)
    → front ≤ common_prefix_len e a all → back ≤ common_prefix_len e (reverse b) (reverse all) → front + back ≤ length all
    → all ≡ take front a ++ (take (length all - front - back) (drop front all) ++ drop (length b - back) b)
three-parts e decides a b all front back low low_back inside =
    let count = length all - front - back in
    let on : front + count ≡ length all - back = omega (arith, inside) in
    sym (take-append-drop front all)
    ∙ ap₂ (λ x y. x ++ y) (sym (front-taken e decides front a all low))
    (sym (take-append-drop count (drop front all))
    ∙ ap (λ t. take count (drop front all) ++ t)
    (drop-drop count front all ∙ ap (λ n. drop n all) on ∙ sym (back-taken e decides back b all low_back)))

-- a range to the end, and one from the start
pub range-to_end : {X : Type 0} (xs : List X) (start : ℕ) → slice_range xs start (length xs) ≡ drop start xs
range-to_end xs start = ap (λ n. take n (drop start xs)) (sym (length-drop start xs)) ∙ take-length (drop start xs)

pub range-from_start : {X : Type 0} (xs : List X) (end : ℕ) → slice_range xs 0 end ≡ take end xs
range-from_start xs end = let same : end - 0 ≡ end = omega arith in ap (λ n. take n xs) same
