-- Lists whose elements a block of 8-bit graphemes can hold.
use Rattle.std.proofs.Common.{◌≡◌, ℕ, ℤ, pos, negsuc, ◌<◌, ◌≤◌, ◌-◌, ◌*◌, ◌%◌, ◌^◌, Bool, true, false, not, cond, ◌&&◌, ◌||◌, eqb, ltb, List, [], ◌∷◌, map, replicate, length, get_or, zero, suc, drop, take, take-add, subst, ◌+◌, w8, w32, of_z, to_z, FitsSigned, refl, sym, ap, ◌∙◌, arith, ap₂, inl, inr}
use Rattle.std.proofs.lemmas.Bool.{and_left, and_parts, and_right, cases_eq, cases_lt, eq-eqb, ne_eqb}
use Rattle.std.proofs.lemmas.Int.{to_z-of_z}
use Rattle.std.proofs.lemmas.List.{drop-drop, length-map}
use Rattle.std.proofs.lemmas.List.Elements.{All-get_or}
use Rattle.std.proofs.lemmas.List.Sums.{AllPass-from_list_all}
use Rattle.std.proofs.lemmas.List.Folds.{list_all-append}
use Rattle.std.proofs.lemmas.Simd.{chunk-drop, length-chunk, mask_l-mod}
use Rattle.std.specs.List.{list_all}
use Rattle.nfg_lanes.specs.Lanes.{is_narrow_grapheme}
use Rattle.nfg_lanes.proofs.MaskLemmas.{in_block}
use borrow.Rule.Simd.Lanes.{act2}
use borrow.Table.Row.{s_int}
use lib.Lanes.{chunk, mask_l, sel_l, top, zip2}
use lib.Signed.{lt_z}
use mir.Syntax.{bit_or, lt, mask, signed}

-- a narrow grapheme fits 8 bits
pub fits_narrow : (z : ℤ) → is_narrow_grapheme z ≡ true → FitsSigned w8 z
fits_narrow (pos n) narrow = let below : n < 128 = grind arith in record { sfits = omega (arith, below) }
fits_narrow (negsuc n) narrow = let first : n ≡ 0 = grind arith in record { sfits = omega (arith, first) }

-- all of a list are narrow just where those of a block are and those after it
pub narrow_blocks : (i n : ℕ) (zs : List ℤ)
    → list_all is_narrow_grapheme (drop i zs) ≡ (list_all is_narrow_grapheme (chunk i n zs) && list_all is_narrow_grapheme (drop (i + n) zs))
narrow_blocks i n zs = ap (list_all is_narrow_grapheme) (chunk-drop i n zs) ∙ list_all-append is_narrow_grapheme (chunk i n zs) (drop (i + n) zs)

-- each of them is narrow
pub narrow_at : (zs : List ℤ) → list_all is_narrow_grapheme zs ≡ true → (k : ℕ) → k < length zs → is_narrow_grapheme (get_or zs k (pos 0)) ≡ true
narrow_at zs all k inside = All-get_or (λ z. is_narrow_grapheme z ≡ true) zs k (pos 0) inside (AllPass-from_list_all is_narrow_grapheme zs all)

narrow_rest : (i : ℕ) (zs : List ℤ) → list_all is_narrow_grapheme zs ≡ true → list_all is_narrow_grapheme (drop i zs) ≡ true
narrow_rest zero zs all = all
narrow_rest (suc i) [] all = refl
narrow_rest (suc i) (z ∷ zs) all = narrow_rest i zs (and_parts (is_narrow_grapheme z) (list_all is_narrow_grapheme zs) all).1

-- those of a block of narrow graphemes
pub narrow_block : (i n : ℕ) (zs : List ℤ) → list_all is_narrow_grapheme zs ≡ true → list_all is_narrow_grapheme (chunk i n zs) ≡ true
narrow_block i n zs all =
    (and_parts (list_all is_narrow_grapheme (chunk i n zs)) (list_all is_narrow_grapheme (drop (i + n) zs)) (sym (narrow_blocks i n zs) ∙ narrow_rest i zs all)).0

-- what a lane of a vector of 32-bit numbers holds where a is below b, and where one of two lanes is set
abbrev below_lane : ℕ → ℕ → ℕ
below_lane = act2 (mask (lt signed)) (s_int w32) (s_int w32) (s_int w32)

abbrev either_lane : ℕ → ℕ → ℕ
either_lane = act2 bit_or (s_int w32) (s_int w32) (s_int w32)

-- the lanes that `simd_min` and `simd_max` pick
abbrev least_lane : ℕ → ℕ → ℕ
least_lane a b = cond (top 31 (below_lane a b)) a b

abbrev greatest_lane : ℕ → ℕ → ℕ
greatest_lane a b = cond (top 31 (below_lane a b)) b a

abbrev least : ℤ → ℤ → ℤ
least x y = cond (lt_z x y) x y

abbrev greatest : ℤ → ℤ → ℤ
greatest x y = cond (lt_z x y) y x

set_lane : (b : Bool) → top 31 (cond b (2 ^ 32 - 1) 0) ≡ b
set_lane true = refl
set_lane false = refl

below_is : (x y : ℤ) → FitsSigned w32 x → FitsSigned w32 y → top 31 (below_lane (of_z w32 x) (of_z w32 y)) ≡ lt_z x y
below_is x y x_fits y_fits =
    set_lane (lt_z (to_z w32 (of_z w32 x)) (to_z w32 (of_z w32 y))) ∙ ap₂ lt_z (to_z-of_z w32 x x_fits) (to_z-of_z w32 y y_fits)

picked : (b : Bool) (x y : ℤ) → cond b (of_z w32 x) (of_z w32 y) ≡ of_z w32 (cond b x y)
picked true x y = refl
picked false x y = refl

picked_fits : (b : Bool) (x y : ℤ) → FitsSigned w32 x → FitsSigned w32 y → FitsSigned w32 (cond b x y)
picked_fits true x y x_fits y_fits = x_fits
picked_fits false x y x_fits y_fits = y_fits

least_is : (x y : ℤ) → FitsSigned w32 x → FitsSigned w32 y → least_lane (of_z w32 x) (of_z w32 y) ≡ of_z w32 (least x y)
least_is x y x_fits y_fits = ap (λ b. cond b (of_z w32 x) (of_z w32 y)) (below_is x y x_fits y_fits) ∙ picked (lt_z x y) x y

greatest_is : (x y : ℤ) → FitsSigned w32 x → FitsSigned w32 y → greatest_lane (of_z w32 x) (of_z w32 y) ≡ of_z w32 (greatest x y)
greatest_is x y x_fits y_fits = ap (λ b. cond b (of_z w32 y) (of_z w32 x)) (below_is x y x_fits y_fits) ∙ picked (lt_z x y) y x

-- the lane of two numbers of which the first is below -1 or the second above 127
abbrev wide_lane : ℕ → ℕ → ℕ
wide_lane low high = either_lane (below_lane low (2 ^ 32 - 1)) (below_lane 127 high)

either_set : (a b : Bool) → top 31 (either_lane (cond a (2 ^ 32 - 1) 0) (cond b (2 ^ 32 - 1) 0)) ≡ (a || b)
either_set true true = refl
either_set true false = refl
either_set false true = refl
either_set false false = refl

wide_is : (low high : ℤ) → FitsSigned w32 low → FitsSigned w32 high → top 31 (wide_lane (of_z w32 low) (of_z w32 high)) ≡ (lt_z low (negsuc 0) || lt_z (pos 127) high)
wide_is low high low_fits high_fits =
    either_set (lt_z (to_z w32 (of_z w32 low)) (negsuc 0)) (lt_z (pos 127) (to_z w32 (of_z w32 high)))
    ∙ ap₂ (λ l h. lt_z l (negsuc 0) || lt_z (pos 127) h) (to_z-of_z w32 low low_fits) (to_z-of_z w32 high high_fits)

or_false : (b : Bool) → b ≡ (b || false)
or_false true = refl
or_false false = refl

never_low : (b : Bool) (m n : ℕ) → lt_z (cond b (pos m) (pos n)) (negsuc 0) ≡ false
never_low true m n = refl
never_low false m n = refl

never_high : (b : Bool) (m n : ℕ) → lt_z (pos 127) (cond b (negsuc m) (negsuc n)) ≡ false
never_high true m n = refl
never_high false m n = refl

-- the least of two is below -1 where one of them is
low_of_least : (x y : ℤ) → lt_z (least x y) (negsuc 0) ≡ (lt_z x (negsuc 0) || lt_z y (negsuc 0))
low_of_least (pos m) (pos n) = never_low (ltb m n) m n
low_of_least (pos m) (negsuc n) = refl
low_of_least (negsuc m) (pos n) = or_false (ltb 0 m)
low_of_least (negsuc m) (negsuc n) = elim (cases_lt n m) [ inl below ↦ grind arith | inr above ↦ grind arith ]

-- the greatest of two is above 127 where one of them is
high_of_greatest : (x y : ℤ) → lt_z (pos 127) (greatest x y) ≡ (lt_z (pos 127) x || lt_z (pos 127) y)
high_of_greatest (pos m) (pos n) = elim (cases_lt m n) [ inl below ↦ grind arith | inr above ↦ grind arith ]
high_of_greatest (pos m) (negsuc n) = or_false (ltb 127 m)
high_of_greatest (negsuc m) (pos n) = refl
high_of_greatest (negsuc m) (negsuc n) = never_high (lt_z (negsuc m) (negsuc n)) n m

outside_is_wide : (z : ℤ) → not (lt_z z (negsuc 0) || lt_z (pos 127) z) ≡ is_narrow_grapheme z
outside_is_wide (pos n) = grind arith
outside_is_wide (negsuc zero) = refl
outside_is_wide (negsuc (suc n)) = grind arith

two_pairs : (l m h k : Bool) → not ((l || m) || (h || k)) ≡ (not (l || h) && not (m || k))
two_pairs true m h k = refl
two_pairs false true true k = refl
two_pairs false true false true = refl
two_pairs false true false false = refl
two_pairs false false true k = refl
two_pairs false false false k = refl

-- what is tested of the least and the greatest of two numbers is tested of both
both_narrow : (low1 low2 high1 high2 : ℤ)
    → not (lt_z (least low1 low2) (negsuc 0) || lt_z (pos 127) (greatest high1 high2))
    ≡ (not (lt_z low1 (negsuc 0) || lt_z (pos 127) high1) && not (lt_z low2 (negsuc 0) || lt_z (pos 127) high2))
both_narrow low1 low2 high1 high2 =
    ap₂ (λ l h. not (l || h)) (low_of_least low1 low2) (high_of_greatest high1 high2)
    ∙ two_pairs (lt_z low1 (negsuc 0)) (lt_z low2 (negsuc 0)) (lt_z (pos 127) high1) (lt_z (pos 127) high2)

-- the lane of four numbers that a block makes
abbrev four_lane : ℕ → ℕ → ℕ → ℕ → ℕ
four_lane p q r s = wide_lane (least_lane (least_lane p q) (least_lane r s)) (greatest_lane (greatest_lane p q) (greatest_lane r s))

four_tell : (p q r s : ℤ) → FitsSigned w32 p → FitsSigned w32 q → FitsSigned w32 r → FitsSigned w32 s
    → not (top 31 (four_lane (of_z w32 p) (of_z w32 q) (of_z w32 r) (of_z w32 s)))
    ≡ ((is_narrow_grapheme p && is_narrow_grapheme q) && (is_narrow_grapheme r && is_narrow_grapheme s))
four_tell p q r s p_fits q_fits r_fits s_fits =
    let low1_fits = picked_fits (lt_z p q) p q p_fits q_fits in
    let low2_fits = picked_fits (lt_z r s) r s r_fits s_fits in
    let high1_fits = picked_fits (lt_z p q) q p q_fits p_fits in
    let high2_fits = picked_fits (lt_z r s) s r s_fits r_fits in
    let low = ap₂ least_lane (least_is p q p_fits q_fits) (least_is r s r_fits s_fits) ∙ least_is (least p q) (least r s) low1_fits low2_fits in
    let high = ap₂ greatest_lane (greatest_is p q p_fits q_fits) (greatest_is r s r_fits s_fits) ∙ greatest_is (greatest p q) (greatest r s) high1_fits high2_fits in
    ap not
    (ap₂ (λ l h. top 31 (wide_lane l h)) low high
    ∙ wide_is (least (least p q) (least r s)) (greatest (greatest p q) (greatest r s))
    (picked_fits (lt_z (least p q) (least r s)) (least p q) (least r s) low1_fits low2_fits)
    (picked_fits (lt_z (greatest p q) (greatest r s)) (greatest r s) (greatest p q) high2_fits high1_fits))
    ∙ both_narrow (least p q) (least r s) (greatest p q) (greatest r s)
    ∙ ap₂ (λ a b. a && b)
    (both_narrow p q p q ∙ ap₂ (λ a b. a && b) (outside_is_wide p) (outside_is_wide q))
    (both_narrow r s r s ∙ ap₂ (λ a b. a && b) (outside_is_wide r) (outside_is_wide s))

bit_step : (set : Bool) (rest : ℕ) (others : Bool) → eqb rest 0 ≡ others → eqb (cond set 1 0 + 2 * rest) 0 ≡ (not set && others)
bit_step true rest others empty = ne_eqb (1 + 2 * rest) 0 (λ e. absurd (omega (arith, e)))
bit_step false rest others empty =
    elim (cases_eq rest 0) [
      | inl none ↦ eq-eqb (0 + 2 * rest) 0 (omega (arith, none)) ∙ sym (eq-eqb rest 0 none) ∙ empty
      | inr some ↦ ne_eqb (0 + 2 * rest) 0 (λ e. some (omega (arith, e))) ∙ sym (ne_eqb rest 0 some) ∙ empty
    ]

-- two vectors, lane by lane, as `simd_min` and `simd_max` join them
abbrev least_lanes : List ℕ → List ℕ → List ℕ
least_lanes us vs = sel_l (map (top 31) (zip2 below_lane us vs)) us vs

abbrev greatest_lanes : List ℕ → List ℕ → List ℕ
greatest_lanes us vs = sel_l (map (top 31) (zip2 below_lane us vs)) vs us

-- and the vector that is set where one of four numbers is wide
abbrev pub wide_lanes : ℕ → List ℕ → List ℕ → List ℕ → List ℕ → List ℕ
wide_lanes n ps qs rs ss =
    zip2 either_lane (zip2 below_lane (least_lanes (least_lanes ps qs) (least_lanes rs ss)) (replicate n (2 ^ 32 - 1)))
    (zip2 below_lane (replicate n 127) (greatest_lanes (greatest_lanes ps qs) (greatest_lanes rs ss)))

abbrev pub all_narrow : List ℤ → Bool
all_narrow = list_all is_narrow_grapheme

regroup : (p q r s ps qs rs ss : Bool)
    → (((p && q) && (r && s)) && ((ps && qs) && (rs && ss))) ≡ (((p && ps) && (q && qs)) && ((r && rs) && (s && ss)))
regroup true true true true ps qs rs ss = refl
regroup false q r s ps qs rs ss = refl
regroup true false r s ps qs rs ss = sym (and_left (ps && false) ((r && rs) && (s && ss)) (and_right ps false refl))
regroup true true false s ps qs rs ss = sym (and_right (ps && qs) false refl)
regroup true true true false ps qs rs ss = sym (and_right (ps && qs) (rs && false) (and_right rs false refl))

-- what is known of the first numbers of four lists, and of those after them
abbrev FitAll : List ℤ → Type 0
FitAll zs = (k : ℕ) → k < length zs → FitsSigned w32 (get_or zs k (pos 0))

-- the mask of the lanes in which one of four numbers is wide is empty just where all are narrow
empty_mask : (n : ℕ) (ps qs rs ss : List ℤ) → length ps ≡ n → length qs ≡ n → length rs ≡ n → length ss ≡ n → FitAll ps → FitAll qs → FitAll rs → FitAll ss
    → eqb (mask_l (map (top 31) (wide_lanes n (map (of_z w32) ps) (map (of_z w32) qs) (map (of_z w32) rs) (map (of_z w32) ss)))) 0
    ≡ ((all_narrow ps && all_narrow qs) && (all_narrow rs && all_narrow ss))
empty_mask zero [] [] [] [] p_long q_long r_long s_long p_fit q_fit r_fit s_fit = refl
empty_mask (suc n) (p ∷ ps) (q ∷ qs) (r ∷ rs) (s ∷ ss) p_long q_long r_long s_long p_fit q_fit r_fit s_fit =
    bit_step (top 31 (four_lane (of_z w32 p) (of_z w32 q) (of_z w32 r) (of_z w32 s))) _ ((all_narrow ps && all_narrow qs) && (all_narrow rs && all_narrow ss))
    (empty_mask n ps qs rs ss (omega (arith, p_long)) (omega (arith, q_long)) (omega (arith, r_long)) (omega (arith, s_long))
    (λ k inside. p_fit (suc k) (omega (arith, inside))) (λ k inside. q_fit (suc k) (omega (arith, inside)))
    (λ k inside. r_fit (suc k) (omega (arith, inside))) (λ k inside. s_fit (suc k) (omega (arith, inside))))
    ∙ ap (λ b. b && ((all_narrow ps && all_narrow qs) && (all_narrow rs && all_narrow ss)))
    (four_tell p q r s (p_fit 0 (omega arith)) (q_fit 0 (omega arith)) (r_fit 0 (omega arith)) (s_fit 0 (omega arith)))
    ∙ regroup (is_narrow_grapheme p) (is_narrow_grapheme q) (is_narrow_grapheme r) (is_narrow_grapheme s) (all_narrow ps) (all_narrow qs) (all_narrow rs) (all_narrow ss)
empty_mask n ps qs rs ss p_long q_long r_long s_long p_fit q_fit r_fit s_fit = absurd (omega (arith, p_long, q_long, r_long, s_long))

length-wide_lanes : (n : ℕ) (ps qs rs ss : List ℕ) → length ps ≡ n → length qs ≡ n → length rs ≡ n → length ss ≡ n → length (wide_lanes n ps qs rs ss) ≡ n
length-wide_lanes zero [] [] [] [] p_long q_long r_long s_long = refl
length-wide_lanes (suc n) (p ∷ ps) (q ∷ qs) (r ∷ rs) (s ∷ ss) p_long q_long r_long s_long =
    ap suc (length-wide_lanes n ps qs rs ss (omega (arith, p_long)) (omega (arith, q_long)) (omega (arith, r_long)) (omega (arith, s_long)))
length-wide_lanes n ps qs rs ss p_long q_long r_long s_long = absurd (omega (arith, p_long, q_long, r_long, s_long))

-- all of a block are narrow just where those of its front are and those of the rest
narrow_parts : (i m n : ℕ) (zs : List ℤ) → all_narrow (chunk i (m + n) zs) ≡ (all_narrow (chunk i m zs) && all_narrow (chunk (i + m) n zs))
narrow_parts i m n zs =
    ap all_narrow (take-add m n (drop i zs)) ∙ list_all-append is_narrow_grapheme (take m (drop i zs)) (take n (drop m (drop i zs)))
    ∙ ap (λ rest. all_narrow (chunk i m zs) && all_narrow (take n rest)) (drop-drop m i zs)

-- what is known of the numbers from i on is known of those of a part
part_fits : (zs : List ℤ) (i m n : ℕ) → i + m + n ≤ length zs → ((k : ℕ) → k < m + n → FitsSigned w32 (get_or zs (i + k) (pos 0))) → FitAll (chunk (i + m) n zs)
part_fits zs i m n room fits =
    in_block (FitsSigned w32) zs (i + m) n (pos 0) room (λ k near. subst (λ j. FitsSigned w32 (get_or zs j (pos 0))) (omega arith) (fits (m + k) (omega (arith, near))))

fewer : (zs : List ℤ) (i m n : ℕ) → m ≤ n → ((k : ℕ) → k < n → FitsSigned w32 (get_or zs (i + k) (pos 0))) → (k : ℕ) → k < m → FitsSigned w32 (get_or zs (i + k) (pos 0))
fewer zs i m n le fits k near = fits k (omega (arith, near, le))

-- and so is the mask that a block makes
pub no_wide_lane : (i : ℕ) (zs : List ℤ) → i + 32 ≤ length zs → ((k : ℕ) → k < 32 → FitsSigned w32 (get_or zs (i + k) (pos 0)))
    → eqb (mask_l (map (top 31) (wide_lanes 8 (map (of_z w32) (chunk i 8 zs)) (map (of_z w32) (chunk (i + 8) 8 zs)) (map (of_z w32) (chunk (i + 16) 8 zs)) (map (of_z w32) (chunk (i + 24) 8 zs)))) % 2 ^ 64) 0
    ≡ all_narrow (chunk i 32 zs)
no_wide_lane i zs room fits =
    let ps = chunk i 8 zs in
    let qs = chunk (i + 8) 8 zs in
    let rs = chunk (i + 16) 8 zs in
    let ss = chunk (i + 24) 8 zs in
    let p_long = length-chunk i 8 zs (omega (arith, room)) in
    let q_long = length-chunk (i + 8) 8 zs (omega (arith, room)) in
    let r_long = length-chunk (i + 16) 8 zs (omega (arith, room)) in
    let s_long = length-chunk (i + 24) 8 zs (omega (arith, room)) in
    let lanes = wide_lanes 8 (map (of_z w32) ps) (map (of_z w32) qs) (map (of_z w32) rs) (map (of_z w32) ss) in
    let long =
    length-wide_lanes 8 (map (of_z w32) ps) (map (of_z w32) qs) (map (of_z w32) rs) (map (of_z w32) ss) (length-map ps (of_z w32) ∙ p_long)
    (length-map qs (of_z w32) ∙ q_long) (length-map rs (of_z w32) ∙ r_long) (length-map ss (of_z w32) ∙ s_long)
    in
    let parts =
    narrow_parts i 16 16 zs ∙ ap₂ (λ a b. a && b) (narrow_parts i 8 8 zs) (narrow_parts (i + 16) 8 8 zs)
    ∙ ap (λ j. (all_narrow ps && all_narrow qs) && (all_narrow rs && all_narrow (chunk j 8 zs))) (omega arith)
    in
    ap (λ m. eqb m 0) (mask_l-mod (map (top 31) lanes) 64 (omega (arith, length-map lanes (top 31), long)))
    ∙ empty_mask 8 ps qs rs ss p_long q_long r_long s_long
    (in_block (FitsSigned w32) zs i 8 (pos 0) (omega (arith, room)) (fewer zs i 8 32 (omega arith) fits))
    (part_fits zs i 8 8 (omega (arith, room)) (fewer zs i (8 + 8) 32 (omega arith) fits))
    (part_fits zs i 16 8 (omega (arith, room)) (fewer zs i (16 + 8) 32 (omega arith) fits))
    (part_fits zs i 24 8 (omega (arith, room)) (fewer zs i (24 + 8) 32 (omega arith) fits))
    ∙ sym parts
