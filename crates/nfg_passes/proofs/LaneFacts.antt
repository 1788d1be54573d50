-- The lanes of a block of ids that are unsettled.
use Rattle.std.proofs.Common.{map, not, ◌≤◌, ◌≡◌, ℕ, zero, suc, ◌-◌, ◌<◌, Bool, true, false, cond, leb, ltb, ◌||◌, ◌&&◌, nat_lt, List, [], ◌∷◌, get_or, length, replicate, take, drop, refl, sym, ap, ap₂, ◌∙◌, arith, le-ltb, zero-le}
use Rattle.std.proofs.lemmas.List.{length-map}
use Rattle.std.proofs.lemmas.List.Sums.{prefix_len-le-length}
use Rattle.nfg_passes.specs.Ids.{id_number}
use Rattle.nfg_passes.specs.Unsettled.{is_unsettled, unsettled_marks, first_unsettled, IsSettledText}
use Rattle.std.proofs.lemmas.Simd.{get_or-zip2}
use lib.Lanes.{chunk, sel_l, zip2}

one_lane : (doubtful mark : Bool) (before id : ℕ) → ltb (cond doubtful 0 id) (cond doubtful 1 (cond mark before 0)) ≡ (doubtful || (mark && nat_lt id before))
one_lane true mark before id = refl
one_lane false true before id = refl
one_lane false false before id = le-ltb id 0 zero-le

-- a lane is unsettled where what stands on the left of it is greater
pub greater_lanes : (before here : List ℕ) → length before ≡ length here
    → (let n = length here in
    let doubtful = zip2 leb (replicate n 71) here in
    let marks = zip2 leb (replicate n 18) here in
    zip2 ltb (sel_l doubtful (replicate n 0) here) (sel_l doubtful (replicate n 1) (sel_l marks before (replicate n 0))))
    ≡ zip2 is_unsettled before here
greater_lanes [] [] same = refl
greater_lanes [] (id ∷ here) same = absurd (omega (arith, same))
greater_lanes (b ∷ before) [] same = absurd (omega (arith, same))
greater_lanes (b ∷ before) (id ∷ here) same = ap₂ (λ x xs. x ∷ xs) (one_lane (leb 71 id) (leb 18 id) b id) (greater_lanes before here (omega (arith, same)))

drop-zip2 : (i : ℕ) (xs ys : List ℕ) → drop i (zip2 is_unsettled xs ys) ≡ zip2 is_unsettled (drop i xs) (drop i ys)
drop-zip2 zero xs ys = refl
drop-zip2 (suc i) [] ys = refl
drop-zip2 (suc i) (x ∷ xs) [] = nothing (drop i xs)
  where
    nothing : (zs : List ℕ) → [] ≡ zip2 is_unsettled zs []
    nothing [] = refl
    nothing (z ∷ zs) = refl
drop-zip2 (suc i) (x ∷ xs) (y ∷ ys) = drop-zip2 i xs ys

take-zip2 : (n : ℕ) (xs ys : List ℕ) → take n (zip2 is_unsettled xs ys) ≡ zip2 is_unsettled (take n xs) (take n ys)
take-zip2 zero xs ys = refl
take-zip2 (suc n) [] ys = refl
take-zip2 (suc n) (x ∷ xs) [] = refl
take-zip2 (suc n) (x ∷ xs) (y ∷ ys) = ap (λ l. is_unsettled x y ∷ l) (take-zip2 n xs ys)

-- the marks of a block, by the ids of the block and those one before them
pub marks_of_block : (ids : List ℕ) (at n : ℕ) → 0 < at → zip2 is_unsettled (chunk (at - 1) n ids) (chunk at n ids) ≡ chunk at n (unsettled_marks ids)
marks_of_block ids zero n follows = absurd (omega (arith, follows))
marks_of_block ids (suc k) n follows =
    ap (λ i. zip2 is_unsettled (chunk i n ids) (chunk (suc k) n ids)) less
    ∙ sym (ap (take n) (drop-zip2 (suc k) (0 ∷ ids) ids) ∙ take-zip2 n (drop k ids) (drop (suc k) ids))
  where
    less : suc k - 1 ≡ k
    less = omega arith

-- there is a mark for each id
pub length-unsettled_marks : (ids : List ℕ) → length (unsettled_marks ids) ≡ length ids
length-unsettled_marks ids = on 0 ids
  where
    on : (before : ℕ) (ids : List ℕ) → length (zip2 is_unsettled (before ∷ ids) ids) ≡ length ids
    on before [] = refl
    on before (id ∷ ids) = ap suc (on id ids)

-- that of any but the first
pub unsettled_mark : (ids : List ℕ) (i : ℕ) → 0 < i → i < length ids → get_or (unsettled_marks ids) i true ≡ is_unsettled (get_or ids (i - 1) 0) (get_or ids i 0)
unsettled_mark ids zero follows inside = absurd (omega (arith, follows))
unsettled_mark ids (suc k) follows inside =
    get_or-zip2 is_unsettled (0 ∷ ids) ids (suc k) 0 0 true (omega (arith, inside)) inside ∙ ap (λ i. is_unsettled (get_or ids i 0) (get_or ids (suc k) 0)) less
  where
    less : k ≡ suc k - 1
    less = omega arith

-- no place of a text is unsettled where the first is not below the length
pub settled_from_length : (t ids : List ℕ) (first : ℕ) → ids ≡ map id_number t → first ≡ first_unsettled ids → length ids ≤ first → IsSettledText t
settled_from_length t ids first of_text is past =
    let most = prefix_len-le-length (λ mark. not mark) (unsettled_marks (map id_number t)) in
    let found : first ≡ first_unsettled (map id_number t) = is ∙ ap first_unsettled of_text in
    omega (arith, found, past, ap length of_text, length-map t id_number, most, length-unsettled_marks (map id_number t))
