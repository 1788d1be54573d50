-- A sample again and again.
use Rattle.std.proofs.Common.{◌≡◌, ℕ, zero, suc, ◌+◌, ◌*◌, ◌≤◌, ◌/◌, List, ◌++◌, length, replicate, max, sym, ap, ◌∙◌, add-one, append-nil, append_assoc, length-append, suc-mul, arith}
use Rattle.std.proofs.Math.Nat.{div-mul-le_self}
use Rattle.std.proofs.lemmas.Nat.{mul-le}
use Rattle.std.specs.List.{concat}

pub once_more : (xs : List ℕ) (n : ℕ) → concat (replicate (n + 1) xs) ≡ concat (replicate n xs) ++ xs
once_more xs zero = append-nil xs
once_more xs (suc n) =
    ap (λ m. concat (replicate m xs)) (add-one (suc n)) ∙ ap (λ m. xs ++ concat (replicate m xs)) (sym (add-one n))
    ∙ ap (λ l. xs ++ l) (once_more xs n) ∙ sym (append_assoc xs (concat (replicate n xs)) xs)

length-samples : (xs : List ℕ) (n : ℕ) → length (concat (replicate n xs)) ≡ n * length xs
length-samples xs zero = omega arith
length-samples xs (suc n) =
    omega (arith, length-append xs (concat (replicate n xs)), length-samples xs n, suc-mul n (length xs))

pub samples_fit : (xs : List ℕ) (size : ℕ) → length (concat (replicate (size / max (length xs) 1) xs)) ≤ size
samples_fit xs size =
    let count = size / max (length xs) 1 in
    let at_most : count * length xs ≤ count * max (length xs) 1 = mul-le count (length xs) count (max (length xs) 1) (omega arith) (omega arith) in
    omega (arith, length-samples xs count, at_most, div-mul-le_self size (max (length xs) 1))
