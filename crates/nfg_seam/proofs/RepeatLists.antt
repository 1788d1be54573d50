-- Lists repeated, and numbers that are kept in 32 bits.
use Rattle.std.proofs.Common.{◌≡◌, ℕ, zero, suc, ◌+◌, ◌*◌, ◌/◌, ◌%◌, ◌<◌, List, ◌++◌, length, take, refl, ap, sym, subst, ◌∙◌, arith, length-append, append_assoc, append-nil, to_z, of_z, w32, lt-ltb, ℤ}
use Rattle.std.proofs.lemmas.Int.{to_z-of_z}
use Rattle.std.proofs.Math.Facts.{sfits_lit}
use Rattle.std.proofs.Math.Seq.{take-append_seam}
use Rattle.std.specs.List.{repeat}
use Rattle.std.specs.Prelude.{T}
use lib.Signed.{mag}
use Rattle.nfg_text.specs.Text.{IsText}
use Rattle.nfg_text.proofs.Proved.{parts_of_text}

module _ {A : Type 0} where
  pub length-repeat : (n : ℕ) (xs : List A) → length (repeat n xs) ≡ length xs * n
  length-repeat zero xs = omega arith
  length-repeat (suc n) xs =
      let both = length-append xs (repeat n xs) in
      let rest = length-repeat n xs in
      grind arith

  -- one repetition more, at the end
  pub repeat-push : (n : ℕ) (xs : List A) → repeat n xs ++ xs ≡ repeat (suc n) xs
  repeat-push zero xs = sym (append-nil xs)
  repeat-push (suc n) xs = append_assoc xs (repeat n xs) xs ∙ ap (λ ys. xs ++ ys) (repeat-push n xs)

  -- more repetitions, one group after the other
  repeat-add : (m n : ℕ) (xs : List A) → repeat (m + n) xs ≡ repeat m xs ++ repeat n xs
  repeat-add zero n xs = let same : 0 + n ≡ n = omega arith in ap (λ k. repeat k xs) same
  repeat-add (suc m) n xs =
      let more : suc m + n ≡ suc (m + n) = omega arith in
      ap (λ k. repeat k xs) more ∙ ap (λ ys. xs ++ ys) (repeat-add m n xs) ∙ sym (append_assoc xs (repeat m xs) (repeat n xs))

  -- a repetition repeated
  repeat-repeat : (m n : ℕ) (xs : List A) → repeat m (repeat n xs) ≡ repeat (n * m) xs
  repeat-repeat zero n xs = let none : 0 ≡ n * 0 = omega arith in ap (λ k. repeat k xs) none
  repeat-repeat (suc m) n xs =
      let more : n + n * m ≡ n * suc m = grind arith in
      ap (λ ys. repeat n xs ++ ys) (repeat-repeat m n xs) ∙ sym (repeat-add n (n * m) xs) ∙ ap (λ k. repeat k xs) more

  -- in groups of 64, and what is left
  pub repeat-together : (times : ℕ) (xs : List A) → repeat (times / 64) (repeat 64 xs) ++ repeat (times % 64) xs ≡ repeat times xs
  repeat-together times xs =
      let sum : 64 * (times / 64) + times % 64 ≡ times = omega arith in
      ap (λ l. l ++ repeat (times % 64) xs) (repeat-repeat (times / 64) 64 xs) ∙ sym (repeat-add (64 * (times / 64)) (times % 64) xs) ∙ ap (λ k. repeat k xs) sum

  -- a list that is written over the front of another, as far as it goes
  pub take-written : (n : ℕ) (xs ys : List A) → n ≡ length xs → take n (xs ++ ys) ≡ xs
  take-written n xs ys all = ap (λ k. take k (xs ++ ys)) all ∙ take-append_seam xs ys

-- a text repeated is a text
pub IsText-repeat : (n : ℕ) (t : List ℕ) → IsText t → IsText (repeat n t)
IsText-repeat zero t text = refl
IsText-repeat (suc n) t text = (parts_of_text t (repeat n t)).1 (text, IsText-repeat n t text)

-- writing a number and reading it back
pub back : (z : ℤ) → mag z < 0x8000_0000 → to_z w32 (of_z w32 z) ≡ z
back z h = to_z-of_z w32 z (sfits_lit (subst T (sym (lt-ltb (mag z) 0x8000_0000 h)) tt))
