-- Lemmas on places in strands.
use Rattle.std.proofs.Common.{◌≡◌, ℕ, suc, ◌+◌, ◌-◌, ◌*◌, ◌/◌, ◌%◌, ◌<◌, ◌≤◌, min, List, [], ◌∷◌, ◌++◌, length, get_or, drop, refl, ap, ap₂, sym, subst, ◌∙◌, arith, append_assoc, length-append, length-drop}
use Rattle.std.proofs.lemmas.List.{drop_more, drop_all, drop-drop, drop-append-le}
use Rattle.std.proofs.Math.Nat.{mul-le-mul_left}
use Rattle.std.proofs.lemmas.Nat.{div-add-mod', mod_below, div_below, mul-add-lt}
use Rattle.nfg_strand.proofs.Repeats.{length-repeat, drop-repeat}
use Rattle.nfg_strand.proofs.Ranges.{drop-append, slice_range-append}
use Rattle.nfg_strand.specs.Pieces.{clipped, clipped_piece}
use Rattle.std.specs.Prelude.{slice_range}
use Rattle.std.specs.List.{repeat}
use Rattle.nfg_strand.specs.Strand.{Repetition, graphemes, graphemes_of, piece_of, pieces, left_of, IsPlaceIn, IsInFirst}

-- the first strand, and those after it
pub first_and_rest : (strands : List Repetition) (s : Repetition) → 0 < length strands → s ≡ get_or strands 0 s → strands ≡ s ∷ drop 1 strands
first_and_rest [] s some is = absurd (omega arith)
first_and_rest (x ∷ strands) s some is = ap (λ y. y ∷ strands) (sym is)

pub left_of-first : (strands : List Repetition) (s : Repetition) (at later : ℕ) → 0 < length strands → s ≡ get_or strands 0 s →
    left_of strands at later ≡ drop at s.unit ++ (repeat later s.unit ++ graphemes (drop 1 strands))
left_of-first strands s at later some is = ap (λ ss. left_of ss at later) (first_and_rest strands s some is)

pub left_of-none : (strands : List Repetition) (at later : ℕ) → length strands ≡ 0 → left_of strands at later ≡ []
left_of-none [] at later none = refl
left_of-none (x ∷ strands) at later none = absurd (omega arith)

pub graphemes-none : (strands : List Repetition) → length strands ≡ 0 → graphemes strands ≡ []
graphemes-none [] none = refl
graphemes-none (x ∷ strands) none = absurd (omega arith)

-- a place in the first strand
pub IsPlaceIn-first : (strands : List Repetition) (s : Repetition) (at later : ℕ) → 0 < length strands → s ≡ get_or strands 0 s →
    IsPlaceIn strands at later → (at < length s.unit) × (later < s.times)
IsPlaceIn-first strands s at later some is place =
    subst (λ (ss : List Repetition). IsPlaceIn ss at later) (first_and_rest strands s some is) place

pub IsPlaceIn-made : (strands : List Repetition) (s : Repetition) (at later : ℕ) → 0 < length strands → s ≡ get_or strands 0 s →
    at < length s.unit → later < s.times → IsPlaceIn strands at later
IsPlaceIn-made strands s at later some is within repeated =
    subst (λ (ss : List Repetition). IsPlaceIn ss at later) (sym (first_and_rest strands s some is)) (within, repeated)

pub IsPlaceIn-none : (strands : List Repetition) (at later : ℕ) → length strands ≡ 0 → IsPlaceIn strands at later
IsPlaceIn-none [] at later none = tt
IsPlaceIn-none (x ∷ strands) at later none = absurd (omega arith)

-- what is left is the rest of the unit, and then its next time or the next strand
module _ (strands : List Repetition) (s : Repetition) (at later : ℕ) (some : 0 < length strands) (is : s ≡ get_or strands 0 s) where
  pub run_then_time : 0 < later → left_of strands at later ≡ drop at s.unit ++ left_of strands 0 (later - 1)
  run_then_time more =
      let one_less : later ≡ suc (later - 1) = omega arith in
      left_of-first strands s at later some is
      ∙ ap (λ n. drop at s.unit ++ (repeat n s.unit ++ graphemes (drop 1 strands))) one_less
      ∙ ap (λ ys. drop at s.unit ++ ys) (append_assoc s.unit (repeat (later - 1) s.unit) (graphemes (drop 1 strands)) ∙ sym (left_of-first strands s 0 (later - 1) some is))

  pub run_then_strand : later ≡ 0 → left_of strands at later ≡ drop at s.unit ++ graphemes (drop 1 strands)
  run_then_strand none =
      left_of-first strands s at later some is
      ∙ ap (λ n. drop at s.unit ++ (repeat n s.unit ++ graphemes (drop 1 strands))) none

-- all graphemes are those from the first place of the first strand on
pub left_of-start : (strands : List Repetition) (s : Repetition) → 0 < length strands → s ≡ get_or strands 0 s → 0 < s.times →
    left_of strands 0 (s.times - 1) ≡ graphemes strands
left_of-start strands s some is repeated =
    let one_less : s.times ≡ suc (s.times - 1) = omega arith in
    left_of-first strands s 0 (s.times - 1) some is
    ∙ sym (append_assoc s.unit (repeat (s.times - 1) s.unit) (graphemes (drop 1 strands)))
    ∙ ap (λ n. repeat n s.unit ++ graphemes (drop 1 strands)) (sym one_less)
    ∙ ap graphemes (sym (first_and_rest strands s some is))

lt_le : (a b : ℕ) → a < b → a ≤ b
lt_le a b h = omega arith

-- the place after some graphemes of the first strand
pub drop-graphemes-first : (s : Repetition) (strands : List Repetition) (k q r : ℕ) → k ≡ length s.unit * q + r → r < length s.unit → q < s.times →
    drop k (graphemes (s ∷ strands)) ≡ drop r s.unit ++ (repeat (s.times - 1 - q) s.unit ++ graphemes strands)
drop-graphemes-first s strands k q r split within repeated =
    let turned : k ≡ length s.unit * q + r = split in
    let enough : length s.unit * q ≤ length (repeat s.times s.unit) =
    omega (arith, length-repeat s.times s.unit, mul-le-mul_left (length s.unit) (lt_le q s.times repeated)) in
    let one_more : s.times - q ≡ suc (s.times - 1 - q) = omega arith in
    ap (λ n. drop n (graphemes (s ∷ strands))) turned
    ∙ sym (drop-drop r (length s.unit * q) (graphemes (s ∷ strands)))
    ∙ ap (drop r)
    (drop-append-le (length s.unit * q) (repeat s.times s.unit) (graphemes strands) enough
    ∙ ap (λ xs. xs ++ graphemes strands) (drop-repeat q s.times s.unit ∙ ap (λ n. repeat n s.unit) one_more)
    ∙ append_assoc s.unit (repeat (s.times - 1 - q) s.unit) (graphemes strands))
    ∙ drop-append-le r s.unit (repeat (s.times - 1 - q) s.unit ++ graphemes strands) (omega arith)

-- the same place, by the quotient and the remainder
pub left_of-after : (strands : List Repetition) (s : Repetition) (k m t : ℕ) → 0 < length strands → s ≡ get_or strands 0 s → m ≡ length s.unit → t ≡ s.times → 0 < m →
    IsInFirst strands k → left_of strands (k % m) (t - 1 - k / m) ≡ drop k (graphemes strands)
left_of-after strands s k m t some is unit times nonempty inside =
    let shape = first_and_rest strands s some is in
    let within : k < length s.unit * s.times = subst (λ (ss : List Repetition). IsInFirst ss k) shape inside in
    let split : k ≡ length s.unit * (k / m) + k % m = grind (arith, div-add-mod' k m) in
    let below : k % m < length s.unit = omega (arith, mod_below k m nonempty) in
    let repeated : k / m < s.times = grind (arith, div_below k m s.times) in
    left_of-first strands s (k % m) (t - 1 - k / m) some is
    ∙ ap (λ n. drop (k % m) s.unit ++ (repeat (n - 1 - k / m) s.unit ++ graphemes (drop 1 strands))) times
    ∙ sym (drop-graphemes-first s (drop 1 strands) k (k / m) (k % m) split below repeated)
    ∙ ap (λ ss. drop k (graphemes ss)) (sym shape)

-- passing over the whole first strand
pub drop-graphemes-past : (s : Repetition) (strands : List Repetition) (k : ℕ) → length s.unit * s.times ≤ k →
    drop k (graphemes (s ∷ strands)) ≡ drop (k - length s.unit * s.times) (graphemes strands)
drop-graphemes-past s strands k past =
    let len = length-repeat s.times s.unit in
    drop-append k (graphemes_of s) (graphemes strands)
    ∙ ap₂ ◌++◌ (drop_all k (graphemes_of s) (omega arith)) (ap (λ n. drop (k - n) (graphemes strands)) len)

-- the strands from the i-th on
pub strand_and_rest : (strands : List Repetition) (i : ℕ) (s : Repetition) → i < length strands → s ≡ get_or strands i s →
    drop i strands ≡ s ∷ drop (i + 1) strands
strand_and_rest strands i s within is = drop_more strands i s within ∙ ap (λ y. y ∷ drop (i + 1) strands) (sym is)

-- passing over the i-th strand
module _ (strands : List Repetition) (i : ℕ) (s : Repetition) (left span : ℕ) (within : i < length strands) (is : s ≡ get_or strands i s) (covers : span ≡ length s.unit * s.times) where
  pub length-graphemes-past : length (graphemes (drop i strands)) ≡ span + length (graphemes (drop (i + 1) strands))
  length-graphemes-past =
      let shape = ap (λ ss. length (graphemes ss)) (strand_and_rest strands i s within is) in
      let both = length-append (graphemes_of s) (graphemes (drop (i + 1) strands)) in
      let len = length-repeat s.times s.unit in
      omega arith

  pub drop-graphemes-next : span ≤ left → drop (left - span) (graphemes (drop (i + 1) strands)) ≡ drop left (graphemes (drop i strands))
  drop-graphemes-next past =
      ap (λ n. drop (left - n) (graphemes (drop (i + 1) strands))) covers
      ∙ sym (drop-graphemes-past s (drop (i + 1) strands) left (omega arith))
      ∙ ap (λ ss. drop left (graphemes ss)) (sym (strand_and_rest strands i s within is))

-- a place, as a count of the graphemes before it
module _ (strands : List Repetition) (s : Repetition) (at later over span : ℕ) (some : 0 < length strands) (is : s ≡ get_or strands 0 s) (place : IsPlaceIn strands at later)
    (before : over ≡ (s.times - 1 - later) * length s.unit + at) (covers : span ≡ length s.unit * s.times) where
  pub over-lt-span : over < span
  over-lt-span =
      let first = IsPlaceIn-first strands s at later some is place in
      omega (arith, mul-add-lt (s.times - 1 - later) (length s.unit) at s.times (omega arith) first.0)

  left_of-drop : left_of strands at later ≡ drop over (graphemes strands)
  left_of-drop =
      let first = IsPlaceIn-first strands s at later some is place in
      let shape = first_and_rest strands s some is in
      let turned : over ≡ length s.unit * (s.times - 1 - later) + at = grind (arith, before) in
      let times : s.times - 1 - (s.times - 1 - later) ≡ later = omega arith in
      left_of-first strands s at later some is
      ∙ ap (λ n. drop at s.unit ++ (repeat n s.unit ++ graphemes (drop 1 strands))) (sym times)
      ∙ sym (drop-graphemes-first s (drop 1 strands) over (s.times - 1 - later) at turned first.0 (omega arith))
      ∙ ap (λ ss. drop over (graphemes ss)) (sym shape)

  pub drop-left_of : (count : ℕ) → drop count (left_of strands at later) ≡ drop (over + count) (graphemes strands)
  drop-left_of count = ap (drop count) left_of-drop ∙ drop-drop count over (graphemes strands)

  pub drop-left_of-past : (count : ℕ) → span - over ≤ count → drop count (left_of strands at later) ≡ drop (count - (span - over)) (graphemes (drop 1 strands))
  drop-left_of-past count past =
      let below = over-lt-span in
      let rest : over + count - length s.unit * s.times ≡ count - (span - over) = omega arith in
      drop-left_of count
      ∙ ap (λ ss. drop (over + count) (graphemes ss)) (first_and_rest strands s some is)
      ∙ drop-graphemes-past s (drop 1 strands) (over + count) (omega arith)
      ∙ ap (λ n. drop n (graphemes (drop 1 strands))) rest

  pub length-left_of : length (left_of strands at later) ≡ (span - over) + length (graphemes (drop 1 strands))
  length-left_of =
      let below = over-lt-span in
      let dropped = ap length left_of-drop in
      let len = length-drop over (graphemes strands) in
      let shape = ap (λ ss. length (graphemes ss)) (first_and_rest strands s some is) in
      let both = length-append (graphemes_of s) (graphemes (drop 1 strands)) in
      let spans = length-repeat s.times s.unit in
      omega arith

-- a clip of the strands from the i-th on: its part of that strand, and the clip of the others
module _ (strands : List Repetition) (i : ℕ) (s : Repetition) (from until span : ℕ) (within : i < length strands) (is : s ≡ get_or strands i s) (covers : span ≡ length s.unit * s.times) where
  pub slice_range-graphemes : from ≤ until → slice_range (graphemes (drop i strands)) from until
      ≡ slice_range (graphemes_of s) (min from span) (min until span) ++ slice_range (graphemes (drop (i + 1) strands)) (from - span) (until - span)
  slice_range-graphemes ordered =
      let len = length-repeat s.times s.unit ∙ sym covers in
      ap (λ ss. slice_range (graphemes ss) from until) (strand_and_rest strands i s within is)
      ∙ slice_range-append (graphemes_of s) (graphemes (drop (i + 1) strands)) from until ordered
      ∙ ap (λ n. slice_range (graphemes_of s) (min from n) (min until n) ++ slice_range (graphemes (drop (i + 1) strands)) (from - n) (until - n)) len

  pub clipped-pieces : clipped (pieces (drop i strands)) from until
      ≡ clipped_piece (piece_of s) (min from span) (min until span) ++ clipped (pieces (drop (i + 1) strands)) (from - span) (until - span)
  clipped-pieces =
      ap (λ ss. clipped (pieces ss) from until) (strand_and_rest strands i s within is)
      ∙ ap (λ n. clipped_piece (piece_of s) (min from n) (min until n) ++ clipped (pieces (drop (i + 1) strands)) (from - n) (until - n)) (sym covers)
