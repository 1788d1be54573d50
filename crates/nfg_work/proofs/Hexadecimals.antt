-- Numbers in hexadecimal, digit by digit.
use Rattle.std.proofs.Common.{◌≡◌, ℕ, zero, suc, ◌*◌, ◌/◌, ◌%◌, ◌+◌, ◌-◌, length, drop, take, slice_set, ◌^◌, ◌<◌, ◌≤◌, ◌==◌, Bool, true, false, List, [], ◌∷◌, ◌++◌, if◌then◌else◌, refl, sym, ap, ◌∙◌, append_assoc, arith, lit≤}
use Rattle.std.proofs.lemmas.Bool.{eq-eqb, ne_eqb}
use Rattle.std.specs.Fmt.{digits, digits_onto, digit_glyph}
use native.Mathlib.Nat.{pow-suc}

else-is : (b : Bool) (x y : List ℕ) → b ≡ false → (if b then x else y) ≡ y
else-is true x y e = cc
else-is false x y e = refl

then-is : (b : Bool) (x y : List ℕ) → b ≡ true → (if b then x else y) ≡ x
then-is true x y e = refl
then-is false x y e = cc

else-same : (b : Bool) (x y z : List ℕ) → (b ≡ false → y ≡ z) → (if b then x else y) ≡ (if b then x else z)
else-same true x y z e = refl
else-same false x y z e = e refl

onto-append_at : (b : Bool) (glyph : ℕ) (more after one rest : List ℕ) → after ≡ rest ++ glyph ∷ more → one ≡ rest ++ glyph ∷ []
    → (if b then glyph ∷ more else after) ≡ (if b then glyph ∷ [] else one) ++ more
onto-append_at true glyph more after one rest e f = refl
onto-append_at false glyph more after one rest e f =
    e ∙ sym (append_assoc rest (glyph ∷ []) more) ∙ ap (λ v. v ++ more) (sym f)

-- the digits stand before what follows them
onto-append : (k n : ℕ) (more : List ℕ) → digits_onto k 16 true n more ≡ digits_onto k 16 true n [] ++ more
onto-append zero n more = refl
onto-append (suc k) n more =
    let glyph = digit_glyph true (n % 16) in
    onto-append_at (n / 16 == 0) glyph more _ _ (digits_onto k 16 true (n / 16) [])
    (onto-append k (n / 16) (glyph ∷ more)) (onto-append k (n / 16) (glyph ∷ []))

none_left : (n : ℕ) → n < 16 → (n / 16 == 0) ≡ true
none_left n small = eq-eqb (n / 16) 0 (omega (arith, small))

-- more digits than the number has change nothing
onto-enough : (k n : ℕ) (more : List ℕ) → n < 16 ^ suc k
    → digits_onto (suc (suc k)) 16 true n more ≡ digits_onto (suc k) 16 true n more
onto-enough zero n more small = else-same (n / 16 == 0) _ _ _ (λ e. let none = none_left n small in cc)
onto-enough (suc k) n more small =
    let power : 16 ^ suc (suc k) ≡ 16 ^ suc k * 16 = pow-suc 16 (suc k) in
    let fewer : n / 16 < 16 ^ suc k = omega (arith, small, power) in
    else-same (n / 16 == 0) _ _ _ (λ e. onto-enough k (n / 16) (digit_glyph true (n % 16) ∷ more) fewer)

onto-last : (k n : ℕ) → (n / 16 == 0) ≡ false → n / 16 < 16 ^ suc k
    → digits_onto (suc (suc k)) 16 true n [] ≡ digits_onto (suc (suc k)) 16 true (n / 16) [] ++ digit_glyph true (n % 16) ∷ []
onto-last k n more small =
    else-is (n / 16 == 0) _ _ more
    ∙ onto-append (suc k) (n / 16) (digit_glyph true (n % 16) ∷ [])
    ∙ ap (λ v. v ++ digit_glyph true (n % 16) ∷ []) (sym (onto-enough k (n / 16) [] small))

onto-one : (k n : ℕ) → n < 16 → digits_onto (suc k) 16 true n [] ≡ digit_glyph true (n % 16) ∷ []
onto-one k n small = then-is (n / 16 == 0) _ _ (none_left n small)

-- a number of one digit
pub digits-one : (n : ℕ) → n < 16 → digits 16 true n ≡ digit_glyph true n ∷ []
unfolding digits
digits-one n small = let same : n % 16 ≡ n = omega (arith, small) in onto-one 63 n small ∙ ap (λ d. digit_glyph true d ∷ []) same

-- a number of more digits ends in its last one
pub digits-last : (n : ℕ) → 16 ≤ n → n < 2 ^ 32 → digits 16 true n ≡ digits 16 true (n / 16) ++ digit_glyph true (n % 16) ∷ []
unfolding digits
digits-last n large small =
    let more : (n / 16 == 0) ≡ false = ne_eqb (n / 16) 0 (λ e. absurd (omega (arith, large, e))) in
    let few : n / 16 < 2 ^ 32 = omega (arith, small) in
    let wide : 2 ^ 32 ≤ 16 ^ suc 62 = lit≤ tt in
    onto-last 62 n more (omega (arith, few, wide))

-- there is room for this digit and one more
pub room_left : (left start : ℕ) → 16 ≤ left → left < 16 ^ start → (0 < start - 1) × (left / 16 < 16 ^ (start - 1))
room_left left zero large small = absurd (omega (arith, large, small))
room_left left (suc zero) large small = absurd (omega (arith, large, small))
room_left left (suc (suc k)) large small =
    let power : 16 ^ suc (suc k) ≡ 16 ^ suc k * 16 = pow-suc 16 (suc k) in
    let before : suc (suc k) - 1 ≡ suc k = omega arith in
    (omega arith, rw before (omega (arith, small, power)))

-- a buffer with one more element in front of what it holds
pub drop-set : (xs : List ℕ) (k x : ℕ) → k < length xs → drop k (slice_set xs k x) ≡ x ∷ drop (k + 1) xs
drop-set [] k x within = absurd (omega (arith, within))
drop-set (y ∷ xs) zero x within = refl
drop-set (y ∷ xs) (suc k) x within = let more : suc k + 1 ≡ suc (k + 1) = omega arith in drop-set xs k x (omega (arith, within)) ∙ ap (λ n. x ∷ drop n (y ∷ xs)) (sym more)

-- one more digit stands in the buffer
pub digits-step : (number left start glyph : ℕ) (buffer : List ℕ) → 16 ≤ left → left < 2 ^ 32 → 0 < start → start ≤ length buffer → glyph ≡ digit_glyph true (left % 16)
    → digits 16 true left ++ drop start buffer ≡ digits 16 true number
    → digits 16 true (left / 16) ++ drop (start - 1) (slice_set buffer (start - 1) glyph) ≡ digits 16 true number
digits-step number left start glyph buffer large small some inside glyph_is so_far =
    let within : start - 1 < length buffer = omega (arith, some, inside) in
    let more : start - 1 + 1 ≡ start = omega (arith, some) in
    ap (λ v. digits 16 true (left / 16) ++ v) (drop-set buffer (start - 1) glyph within)
    ∙ (λ i. digits 16 true (left / 16) ++ (glyph_is i ∷ drop (more i) buffer))
    ∙ sym (append_assoc (digits 16 true (left / 16)) (digit_glyph true (left % 16) ∷ []) (drop start buffer))
    ∙ ap (λ v. v ++ drop start buffer) (sym (digits-last left large small)) ∙ so_far

-- the first digit stands in the buffer
pub digits-first : (number left start glyph : ℕ) (buffer : List ℕ) → left < 16 → 0 < start → start ≤ length buffer → glyph ≡ digit_glyph true left
    → digits 16 true left ++ drop start buffer ≡ digits 16 true number → drop (start - 1) (slice_set buffer (start - 1) glyph) ≡ digits 16 true number
digits-first number left start glyph buffer small some inside glyph_is so_far =
    let within : start - 1 < length buffer = omega (arith, some, inside) in
    let more : start - 1 + 1 ≡ start = omega (arith, some) in
    drop-set buffer (start - 1) glyph within ∙ (λ i. glyph_is i ∷ drop (more i) buffer)
    ∙ ap (λ v. v ++ drop start buffer) (sym (digits-one left small)) ∙ so_far

pub drop-end : (xs : List ℕ) (n : ℕ) → length xs ≡ n → drop n xs ≡ []
drop-end [] zero e = refl
drop-end [] (suc n) e = refl
drop-end (x ∷ xs) zero e = absurd (omega (arith, e))
drop-end (x ∷ xs) (suc n) e = drop-end xs n (omega (arith, e))

-- numbers of two, three and four digits
digits-two : (n : ℕ) → 16 ≤ n → n < 256 → digits 16 true n ≡ digit_glyph true (n / 16) ∷ digit_glyph true (n % 16) ∷ []
digits-two n large small =
    let wide : n < 2 ^ 32 = omega (arith, small) in
    digits-last n large wide ∙ ap (λ v. v ++ digit_glyph true (n % 16) ∷ []) (digits-one (n / 16) (omega (arith, small)))

digits-three : (n : ℕ) → 256 ≤ n → n < 4096
    → digits 16 true n ≡ digit_glyph true (n / 256) ∷ digit_glyph true (n / 16 % 16) ∷ digit_glyph true (n % 16) ∷ []
digits-three n large small =
    let wide : n < 2 ^ 32 = omega (arith, small) in
    let first : n / 16 / 16 ≡ n / 256 = omega arith in
    digits-last n (omega (arith, large)) wide
    ∙ ap (λ v. v ++ digit_glyph true (n % 16) ∷ []) (digits-two (n / 16) (omega (arith, large)) (omega (arith, small)))
    ∙ ap (λ d. digit_glyph true d ∷ digit_glyph true (n / 16 % 16) ∷ digit_glyph true (n % 16) ∷ []) first

digits-four : (n : ℕ) → 4096 ≤ n → n < 65536
    → digits 16 true n ≡ digit_glyph true (n / 4096) ∷ digit_glyph true (n / 256 % 16) ∷ digit_glyph true (n / 16 % 16) ∷ digit_glyph true (n % 16) ∷ []
digits-four n large small =
    let wide : n < 2 ^ 32 = omega (arith, small) in
    let first : n / 16 / 256 ≡ n / 4096 = omega arith in
    let second : n / 16 / 16 ≡ n / 256 = omega arith in
    digits-last n (omega (arith, large)) wide
    ∙ ap (λ v. v ++ digit_glyph true (n % 16) ∷ []) (digits-three (n / 16) (omega (arith, large)) (omega (arith, small)))
    ∙ (λ i. digit_glyph true (first i) ∷ digit_glyph true (second i % 16) ∷ digit_glyph true (n / 16 % 16) ∷ digit_glyph true (n % 16) ∷ [])

-- so many digits stand at the front of a buffer
pub put_one : (n a : ℕ) (out : List ℕ) → 9 ≤ length out → n < 16 → a ≡ digit_glyph true n → take 1 (slice_set out 0 a) ≡ digits 16 true n
put_one n a [] room small first = absurd (omega (arith, room))
put_one n a (x ∷ out) room small first = ap (λ d. d ∷ []) first ∙ sym (digits-one n small)

pub put_two : (n a b : ℕ) (out : List ℕ) → 9 ≤ length out → 16 ≤ n → n < 256 → a ≡ digit_glyph true (n / 16) → b ≡ digit_glyph true (n % 16)
    → take 2 (slice_set (slice_set out 0 a) 1 b) ≡ digits 16 true n
put_two n a b [] room large small first second = absurd (omega (arith, room))
put_two n a b (x ∷ []) room large small first second = absurd (omega (arith, room))
put_two n a b (x ∷ y ∷ out) room large small first second = (λ i. first i ∷ second i ∷ []) ∙ sym (digits-two n large small)

pub put_three : (n a b c : ℕ) (out : List ℕ) → 9 ≤ length out → 256 ≤ n → n < 4096 → a ≡ digit_glyph true (n / 256) → b ≡ digit_glyph true (n / 16 % 16)
    → c ≡ digit_glyph true (n % 16) → take 3 (slice_set (slice_set (slice_set out 0 a) 1 b) 2 c) ≡ digits 16 true n
put_three n a b c [] room large small first second third = absurd (omega (arith, room))
put_three n a b c (x ∷ []) room large small first second third = absurd (omega (arith, room))
put_three n a b c (x ∷ y ∷ []) room large small first second third = absurd (omega (arith, room))
put_three n a b c (x ∷ y ∷ z ∷ out) room large small first second third = (λ i. first i ∷ second i ∷ third i ∷ []) ∙ sym (digits-three n large small)

pub put_four : (n a b c d : ℕ) (out : List ℕ) → 9 ≤ length out → 4096 ≤ n → n < 65536 → a ≡ digit_glyph true (n / 4096) → b ≡ digit_glyph true (n / 256 % 16)
    → c ≡ digit_glyph true (n / 16 % 16) → d ≡ digit_glyph true (n % 16)
    → take 4 (slice_set (slice_set (slice_set (slice_set out 0 a) 1 b) 2 c) 3 d) ≡ digits 16 true n
put_four n a b c d [] room large small first second third fourth = absurd (omega (arith, room))
put_four n a b c d (x ∷ []) room large small first second third fourth = absurd (omega (arith, room))
put_four n a b c d (x ∷ y ∷ []) room large small first second third fourth = absurd (omega (arith, room))
put_four n a b c d (x ∷ y ∷ z ∷ []) room large small first second third fourth = absurd (omega (arith, room))
put_four n a b c d (x ∷ y ∷ z ∷ w ∷ out) room large small first second third fourth =
    (λ i. first i ∷ second i ∷ third i ∷ fourth i ∷ []) ∙ sym (digits-four n large small)
