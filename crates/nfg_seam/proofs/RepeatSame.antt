-- Lists of numbers that are the same.
use Rattle.std.proofs.Common.{◌≡◌, ℕ, ◌+◌, Bool, true, false, cond, List, [], ◌∷◌, length, take, ◌-◌, ℤ, refl, ap, ap₂, ◌∙◌, arith}
use Rattle.std.proofs.lemmas.Bool.Decides.{Decides-int_eq}
use Rattle.std.specs.List.{common_prefix_len, slice_range}
use Rattle.std.specs.Ordering.{int_eq}
use Rattle.std.proofs.Math.Seq.{take-length}

-- what the lists begin with in common is the whole list just where it is the same list
pub all_common : (xs ys : List ℤ) → length xs ≡ length ys → common_prefix_len int_eq xs ys ≡ length xs → xs ≡ ys
all_common [] [] same all = refl
all_common [] (y ∷ ys) same all = absurd (omega (arith, same))
all_common (x ∷ xs) [] same all = absurd (omega (arith, same))
all_common (x ∷ xs) (y ∷ ys) same all = by (int_eq x y) refl all (all_common xs ys (omega (arith, same)))
  where
    by : (b : Bool) → int_eq x y ≡ b → cond b (1 + common_prefix_len int_eq xs ys) 0 ≡ length (x ∷ xs) → (common_prefix_len int_eq xs ys ≡ length xs → xs ≡ ys) → x ∷ xs ≡ y ∷ ys
    by true is all rest = ap₂ ◌∷◌ ((Decides-int_eq x y).0 is) (rest (omega (arith, all)))
    by false is all rest = absurd (omega (arith, all))

pub common_all : (xs : List ℤ) → common_prefix_len int_eq xs xs ≡ length xs
common_all [] = refl
common_all (x ∷ xs) = let is = (Decides-int_eq x x).1 refl in let rest = common_all xs in rw is (omega (arith, rest))

-- a list is the range from its start to its end
pub whole_range : (xs : List ℤ) (n : ℕ) → n ≡ length xs → slice_range xs 0 (0 + n) ≡ xs
whole_range xs n all = let count : 0 + n - 0 ≡ length xs = omega (arith, all) in ap (λ k. take k xs) count ∙ take-length xs
