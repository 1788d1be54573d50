-- What was taken of the output, write after write.
use Rattle.std.proofs.Common.{◌≡◌, ℕ, ◌+◌, ◌≤◌, List, ◌++◌, length, take, drop, Option, Some, None, sym, ap, ◌∙◌, append_assoc, arith, length-drop, length-take}
use Rattle.std.proofs.Math.Seq.{take-take}
use Rattle.nfg_io.specs.Sink.{Grew}
use Rattle.nfg_run.proofs.Fronts.{take-more}

-- two growths are one
pub Grew-append : (a b c : Option (List ℕ)) (x y : List ℕ) → Grew a b x → Grew b c y → Grew a c (x ++ y)
Grew-append None None c x y first second = second
Grew-append None (Some taken) c x y first second = cc
Grew-append (Some before) None c x y first second = cc
Grew-append (Some before) (Some taken) c x y first second =
    let same : taken ≡ before ++ x = cc in
    second ∙ ap Some (ap (λ v. v ++ y) same ∙ append_assoc before x y)

-- the front of a piece that starts at i goes on from the first i
pub take-piece : (xs : List ℕ) (i size n : ℕ) → i ≤ length xs → n ≤ size
    → take (i + n) xs ≡ take i xs ++ take n (take size (drop i xs))
take-piece xs i size n within le =
    take-more xs i n within ∙ ap (λ v. take i xs ++ v) (sym (take-take n size (drop i xs) le))

-- a write of a piece that starts at i goes on from the first i
pub Grew-piece : (a b c : Option (List ℕ)) (xs : List ℕ) (i size n : ℕ) → i ≤ length xs → n ≤ size
    → Grew a b (take i xs) → Grew b c (take n (take size (drop i xs))) → Grew a c (take (i + n) xs)
Grew-piece a b c xs i size n within le first second =
    rw (take-piece xs i size n within le)
    (Grew-append a b c (take i xs) (take n (take size (drop i xs))) first second)

-- what fits into a piece that starts at i
pub piece-within : (xs : List ℕ) (i size n : ℕ) → i ≤ length xs → n ≤ length (take size (drop i xs))
    → (n ≤ size) × (i + n ≤ length xs)
piece-within xs i size n within le =
    (omega (arith, length-take size (drop i xs)), omega (arith, length-take size (drop i xs), length-drop i xs))
