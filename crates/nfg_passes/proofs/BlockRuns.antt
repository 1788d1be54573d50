-- The first mark of a list, found block by block.
use Rattle.std.proofs.Common.{◌≡◌, ℕ, ◌+◌, ◌*◌, ◌<◌, ◌≤◌, Bool, true, false, not, cond, eqb, List, [], ◌∷◌, length, get_or, map, refl, sym, ap, subst, ◌∙◌, arith, inl, inr}
use Rattle.std.proofs.lemmas.Bool.{cases_lt, ne_eqb}
use Rattle.std.proofs.lemmas.List.Sums.{prefix_len_is}
use Rattle.std.proofs.lemmas.Simd.{length-chunk, first_set_mask_l, none_from_empty_mask, run_in_chunk_le, run_in_chunk_fails, run_in_chunk_stops}
use Rattle.std.specs.Int.{trailing_zeros, w64}
use Rattle.std.specs.List.{prefix_len, position_or_len}
use lib.Lanes.{chunk, mask_l}

-- there is no mark before the place
pub record IsClearTo (marks : List Bool) (i : ℕ) : Type 0 where
  pub some : 0 < i
  pub within : i ≤ length marks
  pub clear : (k : ℕ) → k < i → get_or marks k true ≡ false

map-same : (marks : List Bool) → map (λ mark. mark) marks ≡ marks
map-same [] = refl
map-same (mark ∷ marks) = ap (λ l. mark ∷ l) (map-same marks)

-- nor in a block whose mask is empty
pub clear_block : (marks : List Bool) (i n mask j : ℕ) → IsClearTo marks i → i + n ≤ length marks → mask ≡ mask_l (chunk i n marks) → mask ≡ 0 → j ≡ i + n → IsClearTo marks j
clear_block marks i n mask j so_far room is_mask empty next =
    let none : mask_l (map (λ mark. mark) (chunk i n marks)) ≡ 0 = ap mask_l (map-same (chunk i n marks)) ∙ sym is_mask ∙ empty in
    record {
      some = omega (arith, next, so_far.some);
      within = omega (arith, room, next);
      clear = λ k below.
          elim (cases_lt k i) [
            | inl before ↦ so_far.clear k before
            | inr after ↦ none_from_empty_mask (λ mark. mark) marks i n true room none k after (omega (arith, below, next))
          ];
    }

-- nor at a place whose mark is not set
pub clear_next : (marks : List Bool) (i : ℕ) → IsClearTo marks i → i < length marks → get_or marks i true ≡ false → IsClearTo marks (i + 1)
clear_next marks i so_far inside unset =
    record {
      some = omega arith;
      within = omega (arith, inside);
      clear = λ k below.
          elim (cases_lt k i) [
            | inl before ↦ so_far.clear k before
            | inr after ↦ let here : i ≡ k = omega (arith, below, after) in subst (λ j. get_or marks j true ≡ false) here unset
          ];
    }

-- the first mark is where there is none before it
pub first_mark_is : (marks : List Bool) (i : ℕ) → IsClearTo marks i → (i < length marks → get_or marks i true ≡ true) → i ≡ position_or_len (λ mark. mark) marks
first_mark_is marks i so_far here =
    sym (prefix_len_is (λ mark. not mark) marks i true so_far.within (λ k below. ap not (so_far.clear k below)) (λ inside. ap not (here inside)))

empty_mask : (marks : List Bool) → prefix_len (λ mark. not mark) marks ≡ length marks → mask_l marks ≡ 0
empty_mask [] full = refl
empty_mask (true ∷ marks) full = absurd (omega (arith, full))
empty_mask (false ∷ marks) full = ap (λ m. 0 + 2 * m) (empty_mask marks (omega (arith, full)))

-- where the mask is not empty, its lowest bit tells the first mark
pub first_in_block : (marks : List Bool) (i n mask : ℕ) → IsClearTo marks i → i + n ≤ length marks → n ≤ 64 → mask ≡ mask_l (chunk i n marks) → ¬ (mask ≡ 0)
    → i + trailing_zeros w64 mask ≡ position_or_len (λ mark. mark) marks
first_in_block marks i n mask so_far room few is_mask set =
    let block = chunk i n marks in
    let run = prefix_len (λ mark. not mark) block in
    let long = length-chunk i n marks room in
    let same : mask_l (map (λ mark. mark) block) ≡ mask = ap mask_l (map-same block) ∙ sym is_mask in
    let counted : trailing_zeros w64 mask ≡ run =
    ap (λ b. cond b n (trailing_zeros w64 mask)) (sym (ne_eqb mask 0 set))
    ∙ ap (λ m. cond (eqb m 0) n (trailing_zeros w64 m)) (sym same)
    ∙ first_set_mask_l (λ mark. mark) block n long few in
    let at_most = run_in_chunk_le (λ mark. mark) marks i n run true room refl in
    let short : run < n =
    elim (cases_lt run n) [
      | inl short ↦ short
      | inr full ↦ absurd (set (is_mask ∙ empty_mask block (omega (arith, full, at_most, long))))
    ] in
    let so_far_on : IsClearTo marks (i + run) =
    record {
      some = omega (arith, so_far.some);
      within = omega (arith, room, at_most);
      clear = λ k below.
          elim (cases_lt k i) [
            | inl before ↦ so_far.clear k before
            | inr after ↦ run_in_chunk_fails (λ mark. mark) marks i n run true room refl k after below
          ];
    } in
    ap (λ r. i + r) counted ∙ first_mark_is marks (i + run) so_far_on (λ inside. run_in_chunk_stops (λ mark. mark) marks i n run true room refl short)
