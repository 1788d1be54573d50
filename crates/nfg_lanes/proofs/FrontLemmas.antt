-- A common front of two lists, block by block.
use Rattle.std.proofs.Common.{◌≡◌, ℕ, ◌+◌, ◌-◌, ◌<◌, ◌≤◌, cond, Bool, true, false, List, [], ◌∷◌, ◌++◌, length, get_or, drop, reverse, min, suc, refl, sym, ap, ap₂, ◌∙◌, arith}
use Rattle.std.proofs.lemmas.Simd.{length-chunk, chunk-drop, get_or-chunk}
use Rattle.std.proofs.lemmas.List.{length-drop, length-reverse, get_or-reverse, ext_get_or}
use Rattle.std.proofs.lemmas.List.Sums.{common_prefix_len-le, common_prefix_len-drop_no, common_prefix_len-drop_yes}
use Rattle.std.specs.Int.{trailing_zeros, w64}
use Rattle.std.specs.List.{common_prefix_len}
use Rattle.nfg_lanes.specs.Stops.{StopsAfter}
use lib.Lanes.{chunk}

-- the common front goes on where it was left, at i
pub record FrontsTo {X : Type 0} (same : X → X → Bool) (xs ys : List X) (i : ℕ) : Type 0 where
  pub in_left : i ≤ length xs
  pub in_right : i ≤ length ys
  pub rest : common_prefix_len same xs ys ≡ i + common_prefix_len same (drop i xs) (drop i ys)

step : (b : Bool) (m n : ℕ) → (b ≡ true → m ≡ n) → cond b (1 + m) 0 ≡ cond b (1 + n) 0
step true m n equal = ap (λ k. 1 + k) (equal refl)
step false m n equal = refl

full_step : (b : Bool) (m k n len : ℕ) → suc len ≤ cond b (1 + m) 0 → (len ≤ m → k ≡ len + n) → cond b (1 + k) 0 ≡ suc len + n
full_step true m k n len whole more = omega (arith, more (omega (arith, whole)))
full_step false m k n len whole more = absurd (omega (arith, whole))

-- a front that ends inside the first parts, which are of one length
short_front : {X : Type 0} (same : X → X → Bool) (us vs xs ys : List X) → length us ≡ length vs → common_prefix_len same us vs < length us
    → common_prefix_len same (us ++ xs) (vs ++ ys) ≡ common_prefix_len same us vs
short_front same [] vs xs ys long short = absurd (omega (arith, short))
short_front same (u ∷ us) [] xs ys long short = absurd (omega (arith, long))
short_front same (u ∷ us) (v ∷ vs) xs ys long short =
    step (same u v) (common_prefix_len same (us ++ xs) (vs ++ ys)) (common_prefix_len same us vs) (λ equal.
    let here = ap (λ b. cond b (1 + common_prefix_len same us vs) 0) equal in
    short_front same us vs xs ys (omega (arith, long)) (omega (arith, short, here)))

-- a front that fills the first parts
full_front : {X : Type 0} (same : X → X → Bool) (us vs xs ys : List X) → length us ≡ length vs → length us ≤ common_prefix_len same us vs
    → common_prefix_len same (us ++ xs) (vs ++ ys) ≡ length us + common_prefix_len same xs ys
full_front same [] [] xs ys long whole = omega arith
full_front same [] (v ∷ vs) xs ys long whole = absurd (omega (arith, long))
full_front same (u ∷ us) [] xs ys long whole = absurd (omega (arith, long))
full_front same (u ∷ us) (v ∷ vs) xs ys long whole =
    full_step (same u v) (common_prefix_len same us vs) (common_prefix_len same (us ++ xs) (vs ++ ys)) (common_prefix_len same xs ys) (length us) whole
    (λ rest. full_front same us vs xs ys (omega (arith, long)) rest)

-- a front that ends in the blocks at i
pub front_ends : {X : Type 0} (same : X → X → Bool) (xs ys : List X) (i n mask : ℕ) → FrontsTo same xs ys i → i + n ≤ length xs → i + n ≤ length ys
    → StopsAfter (common_prefix_len same (chunk i n xs) (chunk i n ys)) n mask → ¬ (mask ≡ 0) → i + trailing_zeros w64 mask ≡ common_prefix_len same xs ys
front_ends same xs ys i n mask so_far left right stop set =
    let us = chunk i n xs in
    let vs = chunk i n ys in
    let us_long = length-chunk i n xs left in
    let here =
    ap₂ (common_prefix_len same) (chunk-drop i n xs) (chunk-drop i n ys)
    ∙ short_front same us vs (drop (i + n) xs) (drop (i + n) ys) (us_long ∙ sym (length-chunk i n ys right)) (omega (arith, stop.inside set, us_long))
    in
    omega (arith, so_far.rest, here, stop.first set)

-- a front that fills the blocks at i
pub front_fills : {X : Type 0} (same : X → X → Bool) (xs ys : List X) (i n j : ℕ) → FrontsTo same xs ys i → i + n ≤ length xs → i + n ≤ length ys
    → common_prefix_len same (chunk i n xs) (chunk i n ys) ≡ n → j ≡ i + n → FrontsTo same xs ys j
front_fills same xs ys i n j so_far left right full next =
    let us = chunk i n xs in
    let vs = chunk i n ys in
    let us_long = length-chunk i n xs left in
    let here =
    ap₂ (common_prefix_len same) (chunk-drop i n xs) (chunk-drop i n ys)
    ∙ full_front same us vs (drop (i + n) xs) (drop (i + n) ys) (us_long ∙ sym (length-chunk i n ys right)) (omega (arith, full, us_long))
    ∙ ap (λ k. k + common_prefix_len same (drop (i + n) xs) (drop (i + n) ys)) us_long
    in
    record {
      in_left = omega (arith, left, next);
      in_right = omega (arith, right, next);
      rest =
          so_far.rest ∙ ap (λ m. i + m) here ∙ omega arith
          ∙ ap (λ m. j + common_prefix_len same (drop m xs) (drop m ys)) (sym next);
    }

-- the whole of the shorter list is in common
pub front_complete : {X : Type 0} (same : X → X → Bool) (xs ys : List X) (i len : ℕ) → FrontsTo same xs ys i → len ≡ min (length xs) (length ys) → len ≤ i
    → i ≡ common_prefix_len same xs ys
front_complete same xs ys i len so_far shorter past =
    omega (arith, so_far.rest, so_far.in_left, so_far.in_right, shorter, past, common_prefix_len-le same (drop i xs) (drop i ys), length-drop i xs, length-drop i ys)

-- a block of a reversed list is a block of the list, reversed
pub chunk-reverse : {X : Type 0} (xs : List X) (i n : ℕ) (d : X) → i + n ≤ length xs → chunk i n (reverse xs) ≡ reverse (chunk (length xs - i - n) n xs)
chunk-reverse xs i n d room =
    let j = length xs - i - n in
    let block = chunk j n xs in
    let backwards = length-reverse xs in
    let long = length-chunk j n xs (omega (arith, room)) in
    let left = length-chunk i n (reverse xs) (omega (arith, room, backwards)) in
    ext_get_or d (chunk i n (reverse xs)) (reverse block) (left ∙ sym (length-reverse block ∙ long)) (λ k inside.
    let near : k < n = omega (arith, inside, left) in
    get_or-chunk i n (reverse xs) k d near ∙ get_or-reverse xs (i + k) d (omega (arith, room, near))
    ∙ ap (λ m. get_or xs m d) (omega (arith, room, near))
    ∙ sym (get_or-reverse block k d (omega (arith, near, long)) ∙ ap (λ m. get_or block (m - 1 - k) d) long ∙ get_or-chunk j n xs (n - 1 - k) d (omega (arith, near))))

-- a list is in common with itself
front_of_itself : {X : Type 0} (same : X → X → Bool) → ((x : X) → same x x ≡ true) → (xs : List X) → common_prefix_len same xs xs ≡ length xs
front_of_itself same reflexive [] = refl
front_of_itself same reflexive (x ∷ xs) = ap₂ (λ b k. cond b (1 + k) 0) (reflexive x) (front_of_itself same reflexive xs) ∙ omega arith

-- from the back: over a block whose elements are equal
pub back_fills : {X : Type 0} (same : X → X → Bool) → ((x : X) → same x x ≡ true) → (xs ys : List X) (i n j : ℕ) (d : X) → FrontsTo same (reverse xs) (reverse ys) i
    → i + n ≤ length xs → i + n ≤ length ys → chunk (length xs - i - n) n xs ≡ chunk (length ys - i - n) n ys → j ≡ i + n → FrontsTo same (reverse xs) (reverse ys) j
back_fills same reflexive xs ys i n j d so_far left right equal next =
    let block = chunk i n (reverse xs) in
    let other : block ≡ chunk i n (reverse ys) = chunk-reverse xs i n d left ∙ ap reverse equal ∙ sym (chunk-reverse ys i n d right) in
    let room : i + n ≤ length (reverse xs) = omega (arith, left, length-reverse xs) in
    let full : common_prefix_len same block (chunk i n (reverse ys)) ≡ n =
    ap (common_prefix_len same block) (sym other) ∙ front_of_itself same reflexive block ∙ length-chunk i n (reverse xs) room
    in
    front_fills same (reverse xs) (reverse ys) i n j so_far room (omega (arith, right, length-reverse ys)) full next

-- over one element that is in common
pub back_goes_on : {X : Type 0} (same : X → X → Bool) (xs ys : List X) (i : ℕ) (c d : X) → FrontsTo same (reverse xs) (reverse ys) i → i < length xs → i < length ys
    → same (get_or xs (length xs - 1 - i) c) (get_or ys (length ys - 1 - i) d) ≡ true → FrontsTo same (reverse xs) (reverse ys) (i + 1)
back_goes_on same xs ys i c d so_far left right equal =
    let in_left : i < length (reverse xs) = omega (arith, left, length-reverse xs) in
    let in_right : i < length (reverse ys) = omega (arith, right, length-reverse ys) in
    let here = ap₂ same (get_or-reverse xs i c left) (get_or-reverse ys i d right) ∙ equal in
    let step = common_prefix_len-drop_yes same (reverse xs) (reverse ys) i c d in_left in_right here in
    record { in_left = omega (arith, in_left); in_right = omega (arith, in_right); rest = omega (arith, so_far.rest, step) }

-- at one that is not
pub back_ends : {X : Type 0} (same : X → X → Bool) (xs ys : List X) (i : ℕ) (c d : X) → FrontsTo same (reverse xs) (reverse ys) i → i < length xs → i < length ys
    → same (get_or xs (length xs - 1 - i) c) (get_or ys (length ys - 1 - i) d) ≡ false → i ≡ common_prefix_len same (reverse xs) (reverse ys)
back_ends same xs ys i c d so_far left right differ =
    let here = ap₂ same (get_or-reverse xs i c left) (get_or-reverse ys i d right) ∙ differ in
    let stop = common_prefix_len-drop_no same (reverse xs) (reverse ys) i c d (omega (arith, left, length-reverse xs)) (omega (arith, right, length-reverse ys)) here in
    omega (arith, so_far.rest, stop)
