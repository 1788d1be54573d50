-- From the mask of a comparison to the lanes that it is about.
use Rattle.std.proofs.Common.{◌≡◌, ℕ, ℤ, pos, ◌+◌, ◌-◌, ◌*◌, ◌%◌, ◌^◌, ◌<◌, ◌≤◌, eqb, cond, Bool, true, false, not, List, [], ◌∷◌, map, length, get_or, replicate, suc, of_z, to_z, FitsSigned, int_eq, refl, sym, ap, ap₂, ◌∙◌, subst, arith, inl, inr}
use Rattle.std.proofs.lemmas.Bool.{cases_Bool, cases_eq, eq-eqb, ne_eqb, false_from_ne_true}
use Rattle.std.proofs.lemmas.Bool.Decides.{Decides-int_eq}
use Rattle.std.proofs.lemmas.Int.{to_z-of_z}
use Rattle.std.proofs.lemmas.List.{length-map, map-id}
use Rattle.std.proofs.lemmas.Simd.{map-map, bitmask_splat, trailing_mask_l, get_or-chunk, length-chunk, tops_compared, mask_l-mod, length-zip2, leading_from_mask_l}
use Rattle.std.proofs.lemmas.List.Sums.{prefix_len-le-length}
use Rattle.std.specs.List.{prefix_len, position_or_len, common_prefix_len}
use Rattle.nfg_lanes.specs.Stops.{StopsAfter}
use lib.Count.{count_trailing_zeros}
use lib.Lanes.{chunk, zip2, mask_l, top}
use mir.Syntax.{Width}
use mir.Val.{bits, hbits}

empty_from_run : {X : Type 0} (p : X → Bool) (lanes : List X) → position_or_len p lanes ≡ length lanes → mask_l (map p lanes) ≡ 0
empty_from_run p [] full = refl
empty_from_run p (x ∷ xs) full =
    elim (cases_Bool (p x)) [
      | inl stops ↦ absurd (omega (arith, full, ap (λ b. cond (not b) (1 + position_or_len p xs) 0) stops))
      | inr passes ↦
          let rest = ap (λ b. cond (not b) (1 + position_or_len p xs) 0) passes in
          ap₂ (λ b m. cond b 1 0 + 2 * m) passes (empty_from_run p xs (omega (arith, full, rest)))
    ]

-- a mask whose bit k says whether lane k passes p
pub stops_before : {X : Type 0} (p : X → Bool) (lanes : List X) (n mask : ℕ) → length lanes ≡ n → n ≤ 64 → mask ≡ mask_l (map p lanes)
    → StopsAfter (position_or_len p lanes) n mask
stops_before p lanes n mask long few bits = record {
  full = λ empty. leading_from_mask_l p lanes (sym bits ∙ empty) ∙ long;
  first = λ set. ap (count_trailing_zeros 64) bits ∙ trailing_mask_l p 64 lanes (omega (arith, long, few)) (omega (arith, bits, set));
  inside = λ set.
      let at_most = prefix_len-le-length (λ x. not (p x)) lanes in
      elim (cases_eq (position_or_len p lanes) n) [
        | inl full ↦ absurd (set (bits ∙ empty_from_run p lanes (full ∙ sym long)))
        | inr short ↦ omega (arith, at_most, long, short)
      ];
}

-- the mask of the lanes that equal x
abbrev pub equal_mask : Width → List ℤ → ℕ → ℤ → ℕ
equal_mask w lanes n x = mask_l (map (top (hbits w)) (zip2 (λ a b. cond (eqb a b) (2 ^ bits w - 1) 0) (map (of_z w) lanes) (replicate n (of_z w x)))) % 2 ^ 64

-- the mask of the lanes in which two vectors differ
abbrev pub other_mask : Width → List ℕ → List ℕ → ℕ
other_mask w us vs = mask_l (map (top (hbits w)) (zip2 (λ a b. cond (not (eqb a b)) (2 ^ bits w - 1) 0) us vs)) % 2 ^ 64

-- two tests that agree on each element have the same run
pub prefix_len-agree : {X : Type 0} (p q : X → Bool) (d : X) (xs : List X) → ((k : ℕ) → k < length xs → p (get_or xs k d) ≡ q (get_or xs k d))
    → prefix_len p xs ≡ prefix_len q xs
prefix_len-agree p q d [] agree = refl
prefix_len-agree p q d (x ∷ xs) agree =
    ap₂ (λ passes rest. cond passes (1 + rest) 0) (agree 0 (omega arith)) (prefix_len-agree p q d xs (λ k inside. agree (suc k) (omega (arith, inside))))

-- what is known of the elements from at on is known of the block there
pub in_block : {X : Type 0} (P : X → Type 0) (xs : List X) (at n : ℕ) (d : X) → at + n ≤ length xs → ((k : ℕ) → k < n → P (get_or xs (at + k) d))
    → (k : ℕ) → k < length (chunk at n xs) → P (get_or (chunk at n xs) k d)
in_block P xs at n d room known k inside =
    let lane : k < n = omega (arith, inside, length-chunk at n xs room) in
    subst P (sym (get_or-chunk at n xs k d lane)) (known k lane)

-- signed numbers in range are equal where their bits are
pub bits_equal : (w : Width) (y x : ℤ) → FitsSigned w y → FitsSigned w x → eqb (of_z w y) (of_z w x) ≡ int_eq y x
bits_equal w y x y_fits x_fits =
    elim (cases_eq (of_z w y) (of_z w x)) [
      | inl same ↦ eq-eqb _ _ same ∙ sym ((Decides-int_eq y x).1 (sym (to_z-of_z w y y_fits) ∙ ap (to_z w) same ∙ to_z-of_z w x x_fits))
      | inr other ↦ ne_eqb _ _ other ∙ sym (false_from_ne_true _ (λ equal. other (ap (of_z w) ((Decides-int_eq y x).0 equal))))
    ]

-- the lanes that equal x
pub stops_at_equal : (w : Width) (lanes : List ℤ) (n : ℕ) (x : ℤ) → length lanes ≡ n → n ≤ 64 → FitsSigned w x
    → ((k : ℕ) → k < length lanes → FitsSigned w (get_or lanes k (pos 0)))
    → StopsAfter (position_or_len (λ y. int_eq y x) lanes) n (equal_mask w lanes n x)
stops_at_equal w lanes n x long few x_fits fits =
    let set = bitmask_splat w eqb (map (of_z w) lanes) n (of_z w x) (length-map lanes (of_z w) ∙ long) few ∙ ap mask_l (map-map (λ b. eqb b (of_z w x)) (of_z w) lanes) in
    let run =
    prefix_len-agree (λ y. not (eqb (of_z w y) (of_z w x))) (λ y. not (int_eq y x)) (pos 0) lanes
    (λ k inside. ap not (bits_equal w (get_or lanes k (pos 0)) x (fits k inside) x_fits))
    in
    subst (λ r. StopsAfter r n (equal_mask w lanes n x)) run (stops_before (λ y. eqb (of_z w y) (of_z w x)) lanes n (equal_mask w lanes n x) long few set)

not_not : (b : Bool) → not (not b) ≡ b
not_not true = refl
not_not false = refl

run_of_equal : (w : Width) (us vs : List ℤ) → length us ≡ length vs → ((k : ℕ) → k < length us → FitsSigned w (get_or us k (pos 0)))
    → ((k : ℕ) → k < length vs → FitsSigned w (get_or vs k (pos 0)))
    → position_or_len (λ b. b) (zip2 (λ a b. not (eqb a b)) (map (of_z w) us) (map (of_z w) vs)) ≡ common_prefix_len int_eq us vs
run_of_equal w [] vs same us_fit vs_fit = refl
run_of_equal w (u ∷ us) [] same us_fit vs_fit = absurd (omega (arith, same))
run_of_equal w (u ∷ us) (v ∷ vs) same us_fit vs_fit =
    ap₂ (λ b n. cond b (1 + n) 0) (not_not (eqb (of_z w u) (of_z w v)) ∙ bits_equal w u v (us_fit 0 (omega arith)) (vs_fit 0 (omega arith)))
    (run_of_equal w us vs (omega (arith, same)) (λ k inside. us_fit (suc k) (omega (arith, inside))) (λ k inside. vs_fit (suc k) (omega (arith, inside))))

-- the bits of a mask that says where two vectors differ
pub differing : (w : Width) (us vs : List ℕ) (n : ℕ) → length us ≡ n → length vs ≡ n → n ≤ 64
    → other_mask w us vs ≡ mask_l (zip2 (λ a b. not (eqb a b)) us vs)
differing w us vs n us_long vs_long few =
    let lanes = zip2 (λ a b. not (eqb a b)) us vs in
    ap (λ l. mask_l l % 2 ^ 64) (tops_compared w (λ a b. not (eqb a b)) us vs)
    ∙ mask_l-mod lanes 64 (omega (arith, length-zip2 (λ a b. not (eqb a b)) us vs (us_long ∙ sym vs_long), us_long, few))

-- the lanes in which two vectors differ, whose bits are those of us and of vs
pub stops_at_other : (w : Width) (us vs : List ℤ) (us_bits vs_bits : List ℕ) (n : ℕ) → us_bits ≡ map (of_z w) us → vs_bits ≡ map (of_z w) vs
    → length us ≡ n → length vs ≡ n → n ≤ 64
    → ((k : ℕ) → k < length us → FitsSigned w (get_or us k (pos 0))) → ((k : ℕ) → k < length vs → FitsSigned w (get_or vs k (pos 0)))
    → StopsAfter (common_prefix_len int_eq us vs) n (other_mask w us_bits vs_bits)
stops_at_other w us vs us_bits vs_bits n us_are vs_are us_long vs_long few us_fit vs_fit =
    let left = ap length us_are ∙ length-map us (of_z w) ∙ us_long in
    let right = ap length vs_are ∙ length-map vs (of_z w) ∙ vs_long in
    let lanes = zip2 (λ a b. not (eqb a b)) us_bits vs_bits in
    let long = length-zip2 (λ a b. not (eqb a b)) us_bits vs_bits (left ∙ sym right) ∙ left in
    let set = differing w us_bits vs_bits n left right few ∙ ap mask_l (sym (map-id lanes)) in
    let run =
    ap₂ (λ us vs. position_or_len (λ b. b) (zip2 (λ a b. not (eqb a b)) us vs)) us_are vs_are
    ∙ run_of_equal w us vs (us_long ∙ sym vs_long) us_fit vs_fit
    in
    subst (λ r. StopsAfter r n (other_mask w us_bits vs_bits)) run (stops_before (λ b. b) lanes n (other_mask w us_bits vs_bits) long few set)

-- lists that are in common as far as they reach are one
whole_front : (us vs : List ℤ) → length us ≡ length vs → common_prefix_len int_eq us vs ≡ length us → us ≡ vs
whole_front [] [] same full = refl
whole_front [] (v ∷ vs) same full = absurd (omega (arith, same))
whole_front (u ∷ us) [] same full = absurd (omega (arith, same))
whole_front (u ∷ us) (v ∷ vs) same full =
    elim (cases_Bool (int_eq u v)) [
      | inl equal ↦
          let rest = ap (λ b. cond b (1 + common_prefix_len int_eq us vs) 0) equal in
          ap₂ (λ x xs. x ∷ xs) ((Decides-int_eq u v).0 equal) (whole_front us vs (omega (arith, same)) (omega (arith, full, rest)))
      | inr other ↦ absurd (omega (arith, full, ap (λ b. cond b (1 + common_prefix_len int_eq us vs) 0) other))
    ]

none_differ : (ns : List ℕ) → mask_l (zip2 (λ a b. not (eqb a b)) ns ns) ≡ 0
none_differ [] = refl
none_differ (n ∷ ns) = ap₂ (λ b m. cond (not b) 1 0 + 2 * m) (eq-eqb n n refl) (none_differ ns)

-- no lane differs just where the two are one
pub no_lane_differs : (w : Width) (us vs : List ℤ) (n : ℕ) → length us ≡ n → length vs ≡ n → n ≤ 64
    → ((k : ℕ) → k < length us → FitsSigned w (get_or us k (pos 0))) → ((k : ℕ) → k < length vs → FitsSigned w (get_or vs k (pos 0)))
    → (let mask = mask_l (map (top (hbits w)) (zip2 (λ a b. cond (not (eqb a b)) (2 ^ bits w - 1) 0) (map (of_z w) us) (map (of_z w) vs))) % 2 ^ 64 in
    (mask ≡ 0 → us ≡ vs) × (us ≡ vs → mask ≡ 0))
no_lane_differs w us vs n us_long vs_long few us_fit vs_fit =
    let left = length-map us (of_z w) ∙ us_long in
    let right = length-map vs (of_z w) ∙ vs_long in
    let lanes = zip2 (λ a b. not (eqb a b)) (map (of_z w) us) (map (of_z w) vs) in
    let long = length-zip2 (λ a b. not (eqb a b)) (map (of_z w) us) (map (of_z w) vs) (left ∙ sym right) ∙ left in
    let set = differing w (map (of_z w) us) (map (of_z w) vs) n left right few in (
      λ empty.
          let none = leading_from_mask_l (λ b. b) lanes (ap mask_l (map-id lanes) ∙ sym set ∙ empty) in
          whole_front us vs (us_long ∙ sym vs_long) (sym (run_of_equal w us vs (us_long ∙ sym vs_long) us_fit vs_fit) ∙ none ∙ long ∙ sym us_long),
      λ equal. set ∙ ap (λ l. mask_l (zip2 (λ a b. not (eqb a b)) (map (of_z w) us) (map (of_z w) l))) (sym equal) ∙ none_differ (map (of_z w) us),
    )
