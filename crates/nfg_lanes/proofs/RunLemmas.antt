-- A run at the front of a list, block by block.
use Rattle.std.proofs.Common.{◌≡◌, ℕ, ◌+◌, ◌<◌, ◌≤◌, eqb, cond, Bool, true, false, List, length, drop, sym, ap, ◌∙◌, arith}
use Rattle.std.proofs.lemmas.Bool.{eq-eqb, ne_eqb}
use Rattle.std.proofs.lemmas.Simd.{length-chunk, chunk-drop}
use Rattle.std.proofs.lemmas.List.Folds.{prefix_len-append}
use Rattle.std.specs.Int.{trailing_zeros, w64}
use Rattle.std.specs.List.{prefix_len}
use Rattle.nfg_lanes.specs.Stops.{StopsAfter}
use lib.Lanes.{chunk}

-- the run goes on where it was left, at i
pub record RunsTo {X : Type 0} (p : X → Bool) (xs : List X) (i : ℕ) : Type 0 where
  pub in_range : i ≤ length xs
  pub rest : prefix_len p xs ≡ i + prefix_len p (drop i xs)

-- the run over a block and what follows it
block_run : {X : Type 0} (p : X → Bool) (xs : List X) (i n : ℕ) → i + n ≤ length xs
    → prefix_len p (drop i xs) ≡ cond (eqb (prefix_len p (chunk i n xs)) n) (n + prefix_len p (drop (i + n) xs)) (prefix_len p (chunk i n xs))
block_run p xs i n room =
    ap (prefix_len p) (chunk-drop i n xs) ∙ prefix_len-append p (chunk i n xs) (drop (i + n) xs)
    ∙ ap (λ m. cond (eqb (prefix_len p (chunk i n xs)) m) (m + prefix_len p (drop (i + n) xs)) (prefix_len p (chunk i n xs))) (length-chunk i n xs room)

-- a run that ends in the block at i
pub run_ends : {X : Type 0} (p : X → Bool) (xs : List X) (i n mask : ℕ) → RunsTo p xs i → i + n ≤ length xs → StopsAfter (prefix_len p (chunk i n xs)) n mask
    → ¬ (mask ≡ 0) → i + trailing_zeros w64 mask ≡ prefix_len p xs
run_ends p xs i n mask so_far room stop set =
    let short : prefix_len p (chunk i n xs) < n = stop.inside set in
    let stops : eqb (prefix_len p (chunk i n xs)) n ≡ false = ne_eqb _ _ (λ full. absurd (omega (arith, short, full))) in
    let here = block_run p xs i n room ∙ ap (λ b. cond b (n + prefix_len p (drop (i + n) xs)) (prefix_len p (chunk i n xs))) stops in
    omega (arith, so_far.rest, here, stop.first set)

-- a run that fills the block at i
pub run_fills : {X : Type 0} (p : X → Bool) (xs : List X) (i n mask j : ℕ) → RunsTo p xs i → i + n ≤ length xs → StopsAfter (prefix_len p (chunk i n xs)) n mask
    → mask ≡ 0 → j ≡ i + n → RunsTo p xs j
run_fills p xs i n mask j so_far room stop empty next =
    let fills : eqb (prefix_len p (chunk i n xs)) n ≡ true = eq-eqb _ _ (stop.full empty) in
    let here = block_run p xs i n room ∙ ap (λ b. cond b (n + prefix_len p (drop (i + n) xs)) (prefix_len p (chunk i n xs))) fills in
    record { in_range = omega (arith, room, next); rest = so_far.rest ∙ ap (λ m. i + m) here ∙ omega arith ∙ ap (λ m. j + prefix_len p (drop m xs)) (sym next) }
