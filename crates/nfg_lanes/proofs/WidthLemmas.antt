-- Signed numbers between two widths.
use Rattle.std.proofs.Common.{◌≡◌, ℕ, ℤ, pos, negsuc, ◌+◌, ◌<◌, ◌≤◌, List, [], ◌∷◌, map, length, get_or, take, take-add, ◌++◌, suc, w8, w32, of_z, to_z, FitsSigned, refl, ap, ap₂, ◌∙◌, subst, sym, arith}
use Rattle.std.proofs.lemmas.Int.{to_z-of_z}
use Rattle.std.proofs.lemmas.Simd.{length-chunk, length-put_chunk, take_more_put_chunk}
use lib.Lanes.{Each1, chunk, put_chunk}
use mir.Syntax.{Width}

-- what fits 8 bits fits 32
pub fits_wider : (z : ℤ) → FitsSigned w8 z → FitsSigned w32 z
fits_wider (pos n) fits = record { sfits = omega (arith, fits.sfits) }
fits_wider (negsuc n) fits = record { sfits = omega (arith, fits.sfits) }

-- a cast from one width to another, of numbers that fit both
pub cast_fits : (from to : Width) (zs : List ℤ) → ((k : ℕ) → k < length zs → FitsSigned from (get_or zs k (pos 0))) → ((k : ℕ) → k < length zs → FitsSigned to (get_or zs k (pos 0)))
    → Each1 (λ n. FitsSigned to (to_z from n)) (map (of_z from) zs)
cast_fits from to [] before after = tt
cast_fits from to (z ∷ zs) before after = (
  subst (FitsSigned to) (sym (to_z-of_z from z (before 0 (omega arith)))) (after 0 (omega arith)),
  cast_fits from to zs (λ k inside. before (suc k) (omega (arith, inside))) (λ k inside. after (suc k) (omega (arith, inside))),
)

-- gives their bits at the other width
pub cast_bits : (from to : Width) (zs : List ℤ) → ((k : ℕ) → k < length zs → FitsSigned from (get_or zs k (pos 0)))
    → map (λ n. of_z to (to_z from n)) (map (of_z from) zs) ≡ map (of_z to) zs
cast_bits from to [] before = refl
cast_bits from to (z ∷ zs) before =
    ap₂ (λ n ns. n ∷ ns) (ap (of_z to) (to_z-of_z from z (before 0 (omega arith)))) (cast_bits from to zs (λ k inside. before (suc k) (omega (arith, inside))))

-- the bits of numbers that fit are those numbers
pub read_back : (w : Width) (zs : List ℤ) → ((k : ℕ) → k < length zs → FitsSigned w (get_or zs k (pos 0))) → map (to_z w) (map (of_z w) zs) ≡ zs
read_back w [] fits = refl
read_back w (z ∷ zs) fits =
    ap₂ (λ y ys. y ∷ ys) (to_z-of_z w z (fits 0 (omega arith))) (read_back w zs (λ k inside. fits (suc k) (omega (arith, inside))))

-- the elements below i are copied
pub record IsCopiedTo (from into : List ℤ) (i : ℕ) : Type 0 where
  pub same_length : length into ≡ length from
  pub copied : take i into ≡ take i from

-- and those of the block at i, once they are stored
pub block_copied : (from into new : List ℤ) (i n j : ℕ) → IsCopiedTo from into i → i + n ≤ length from → new ≡ put_chunk i into (chunk i n from) → j ≡ i + n
    → IsCopiedTo from new j
block_copied from into new i n j so_far room stored next =
    let block = chunk i n from in
    let long = length-chunk i n from room in
    let same = ap length stored ∙ length-put_chunk i into block ∙ so_far.same_length in
    record {
      same_length = same;
      copied =
          ap (take j) stored ∙ take_more_put_chunk i into block j (omega (arith, next, long)) (omega (arith, next, room, so_far.same_length))
          ∙ ap (λ front. front ++ block) so_far.copied ∙ sym (take-add i n from) ∙ ap (λ m. take m from) (sym next);
    }
