-- Lemmas on ranges of a repeated list.
use Rattle.std.proofs.Common.{◌≡◌, ℕ, zero, suc, ◌+◌, ◌-◌, ◌*◌, ◌/◌, ◌%◌, ◌<◌, ◌≤◌, inl, inr, List, ◌++◌, length, take, drop, refl, ap, ap₂, sym, ◌∙◌, arith, length-drop}
use Rattle.std.proofs.lemmas.List.{drop-drop, drop-append-le, take-append-le, take_all}
use Rattle.std.proofs.lemmas.Bool.{cases_lt}
use Rattle.std.proofs.lemmas.Nat.{div-add-mod', mod_below, div_below}
use Rattle.std.proofs.Math.Nat.{mul-le-mul_left}
use Rattle.std.specs.Prelude.{slice_range}
use Rattle.std.specs.List.{repeat}
use Rattle.nfg_strand.proofs.Ranges.{slice_range-split}
use Rattle.nfg_strand.proofs.Repeats.{drop-repeat, take-repeat, repeat-one}

-- the product that does not reach a bound has a smaller factor
pub factor_lt : (m q t : ℕ) → m * q < m * t → q < t
factor_lt m q t below = elim (cases_lt q t) [ inl low ↦ low | inr high ↦ absurd (omega (arith, mul-le-mul_left m high)) ]

-- a product that is not nothing has no factor that is
pub factor_pos : (n m : ℕ) → 0 < n * m → 0 < n
factor_pos zero m some = absurd (omega arith)
factor_pos (suc n) m some = omega arith

-- a number is its quotient's product and a remainder below the divisor
pub split_by : (n m : ℕ) → 0 < m → (n ≡ m * (n / m) + n % m) × (n % m < m)
split_by n m positive = (grind (arith, div-add-mod' n m), mod_below n m positive)

module _ {A : Type 0} (unit : List A) (t : ℕ) where
  -- a part of the q-th repetition
  pub slice_range-repeat : (q r n : ℕ) → r + n ≤ length unit → (0 < n → q < t) →
      slice_range (repeat t unit) (length unit * q + r) (length unit * q + r + n) ≡ take n (drop r unit)
  slice_range-repeat q r zero inside before =
      let none : length unit * q + r + 0 - (length unit * q + r) ≡ 0 = omega arith in
      ap (λ k. take k (drop (length unit * q + r) (repeat t unit))) none
  slice_range-repeat q r (suc n) inside before =
      let count : length unit * q + r + suc n - (length unit * q + r) ≡ suc n = omega arith in
      let repeated : q < t = before (omega arith) in
      let one_more : t - q ≡ suc (t - q - 1) = omega arith in
      ap (λ k. take k (drop (length unit * q + r) (repeat t unit))) count
      ∙ ap (take (suc n))
      (sym (drop-drop r (length unit * q) (repeat t unit))
      ∙ ap (drop r) (drop-repeat q t unit ∙ ap (λ k. repeat k unit) one_more)
      ∙ drop-append-le r unit (repeat (t - q - 1) unit) (omega arith))
      ∙ take-append-le (suc n) (drop r unit) (repeat (t - q - 1) unit) (simp length-drop (omega arith))

  -- whole repetitions
  pub slice_range-repeats : (first last : ℕ) → first ≤ last → last ≤ t →
      slice_range (repeat t unit) (length unit * first) (length unit * last) ≡ repeat (last - first) unit
  slice_range-repeats first last ordered inside =
      let count : length unit * last - length unit * first ≡ length unit * (last - first) = grind arith in
      ap (λ k. take k (drop (length unit * first) (repeat t unit))) count
      ∙ ap (take (length unit * (last - first))) (drop-repeat first t unit)
      ∙ take-repeat (last - first) (t - first) unit (omega arith)

-- three ranges in a row
pub slice_range-three : {A : Type 0} (xs : List A) (a b c d : ℕ) → a ≤ b → b ≤ c → c ≤ d →
    slice_range xs a d ≡ slice_range xs a b ++ (slice_range xs b c ++ slice_range xs c d)
slice_range-three xs a b c d a-le-b b-le-c c-le-d =
    let to_b : a + (b - a) ≡ b = omega arith in
    let to_c : b + (c - b) ≡ c = omega arith in
    slice_range-split xs a d (b - a) (omega arith)
    ∙ ap (λ n. slice_range xs a b ++ slice_range xs n d) to_b
    ∙ ap (λ ys. slice_range xs a b ++ ys) (slice_range-split xs b d (c - b) (omega arith) ∙ ap (λ n. slice_range xs b c ++ slice_range xs n d) to_c)

-- a range of a repeated list
module _ {A : Type 0} (unit : List A) (t m from until : ℕ) (is_len : m ≡ length unit) (positive : 0 < m) (ordered : from ≤ until) (inside : until ≤ length unit * t) where
  -- in one repetition
  pub in_one : until / m < (from + (m - 1)) / m → from % m + (until - from) ≤ m
  in_one short =
      let start = split_by from m positive in
      let end = split_by until m positive in
      let next : (from + (m - 1)) / m < from / m + 2 = div_below (from + (m - 1)) m (from / m + 2) positive (grind arith) in
      let same : until / m ≤ from / m = omega arith in
      let low = mul-le-mul_left m same in
      omega arith

  pub slice_range-in_one : until / m < (from + (m - 1)) / m → repeat 1 (take (until - from) (drop (from % m) unit)) ≡ slice_range (repeat t unit) from until
  slice_range-in_one short =
      let start = split_by from m positive in
      let within = in_one short in
      let begins : length unit * (from / m) + from % m ≡ from = grind arith in
      let ends : from + (until - from) ≡ until = omega arith in
      let before : 0 < until - from → from / m < t = λ some. factor_lt (length unit) (from / m) t (omega arith) in
      repeat-one (take (until - from) (drop (from % m) unit))
      ∙ sym (slice_range-repeat unit t (from / m) (from % m) (until - from) (omega arith) before)
      ∙ ap₂ (slice_range (repeat t unit)) begins (ap (λ n. n + (until - from)) begins ∙ ends)

  -- in more than one
  module _ (long : (from + (m - 1)) / m ≤ until / m) where
    first_after : (from ≤ (from + (m - 1)) / m * m) × ((from + (m - 1)) / m * m < from + m)
    first_after =
        let whole = split_by (from + (m - 1)) m positive in
        let turned : m * ((from + (m - 1)) / m) ≡ (from + (m - 1)) / m * m = grind arith in
        (omega arith, omega arith)

    last_before : (until / m * m ≤ until) × (until < until / m * m + m)
    last_before =
        let whole = split_by until m positive in
        let turned : m * (until / m) ≡ until / m * m = grind arith in
        (omega arith, omega arith)

    whole_inside : until / m ≤ t
    whole_inside =
        let last = last_before in
        let turned : until / m * m ≡ m * (until / m) = grind arith in
        elim (cases_lt t (until / m)) [
          | inl high ↦ let more : suc t ≤ until / m = omega arith in absurd (omega (arith, mul-le-mul_left m more, inside_turned))
          | inr low ↦ low
        ]
      where
        inside_turned : m * t ≡ length unit * t
        inside_turned = ap (λ n. n * t) is_len

    -- the end of a repetition
    starts : slice_range (repeat t unit) from ((from + (m - 1)) / m * m) ≡ take ((from + (m - 1)) / m * m - from) (drop (m - ((from + (m - 1)) / m * m - from)) unit)
    starts =
        let first = (from + (m - 1)) / m in
        let after = first_after in
        let last = whole_inside in
        elim (cases_lt 0 (first * m - from)) [
          | inl some ↦
              let positive_first : 0 < first = factor_pos first m (omega arith) in
              let one_less : first ≡ (first - 1) + 1 = omega arith in
              let product : first * m ≡ length unit * (first - 1) + m = ap (λ n. n * m) one_less ∙ spread (first - 1) in
              let begins : length unit * (first - 1) + (m - (first * m - from)) ≡ from = omega arith in
              let ends : from + (first * m - from) ≡ first * m = omega arith in
              sym (ap₂ (slice_range (repeat t unit)) begins (ap (λ n. n + (first * m - from)) begins ∙ ends))
              ∙ slice_range-repeat unit t (first - 1) (m - (first * m - from)) (first * m - from) (omega arith) (λ _. omega arith)
          | inr none ↦
              let nothing : first * m - from ≡ 0 = omega arith in
              rw nothing refl
        ]
      where
        spread : (k : ℕ) → (k + 1) * m ≡ length unit * k + m
        spread k = let turned : k * m ≡ length unit * k = grind arith in omega arith

    -- whole repetitions
    goes_on : slice_range (repeat t unit) ((from + (m - 1)) / m * m) (until / m * m) ≡ repeat (until / m - (from + (m - 1)) / m) (take m unit)
    goes_on =
        let first = (from + (m - 1)) / m in
        let last = until / m in
        let begins : first * m ≡ length unit * first = grind arith in
        let ends : last * m ≡ length unit * last = grind arith in
        ap₂ (slice_range (repeat t unit)) begins ends
        ∙ slice_range-repeats unit t first last long whole_inside
        ∙ ap (repeat (last - first)) (sym (take_all m unit (omega arith)))

    -- the start of one
    ends_in : slice_range (repeat t unit) (until / m * m) until ≡ take (until - until / m * m) unit
    ends_in =
        let last = until / m in
        let before = last_before in
        let begins : length unit * last + 0 ≡ last * m = grind arith in
        let ends : last * m + (until - last * m) ≡ until = omega arith in
        let product : length unit * last ≡ last * m = omega arith in
        sym (ap₂ (slice_range (repeat t unit)) begins (ap (λ n. n + (until - last * m)) begins ∙ ends))
        ∙ slice_range-repeat unit t last 0 (until - last * m) (omega arith) (λ some. factor_lt (length unit) last t (omega arith))

    pub slice_range-long :
        repeat 1 (take ((from + (m - 1)) / m * m - from) (drop (m - ((from + (m - 1)) / m * m - from)) unit))
        ++ (repeat (until / m - (from + (m - 1)) / m) (take m unit) ++ repeat 1 (take (until - until / m * m) unit))
        ≡ slice_range (repeat t unit) from until
    slice_range-long =
        let first = (from + (m - 1)) / m in
        let last = until / m in
        let low = (first_after).0 in
        let high = (last_before).0 in
        let between : first * m ≤ last * m = mul_le_right long in
        ap₂ ◌++◌ (repeat-one (take (first * m - from) (drop (m - (first * m - from)) unit)) ∙ sym starts)
        (ap₂ ◌++◌ (sym goes_on) (repeat-one (take (until - last * m) unit) ∙ sym ends_in))
        ∙ sym (slice_range-three (repeat t unit) from (first * m) (last * m) until low between high)
      where
        mul_le_right : {a b : ℕ} → a ≤ b → a * m ≤ b * m
        mul_le_right {a} {b} le = let scaled = mul-le-mul_left m le in let left : a * m ≡ m * a = grind arith in let right : b * m ≡ m * b = grind arith in omega arith
