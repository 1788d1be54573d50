-- The first sequence of a text, by its first byte.
use Rattle.std.proofs.Common.{◌≡◌, ℕ, ◌+◌, ◌-◌, ◌*◌, ◌/◌, ◌%◌, ◌<◌, ◌≤◌, inl, inr, List, [], ◌∷◌, ◌++◌, length, get_or, drop, refl, sym, ap, ◌∙◌, subst, arith, IsUtf8}
use Rattle.std.proofs.lemmas.Bool.{cases_lt}
use Rattle.std.proofs.lemmas.Str.{chars_past_char, IsUtf8-past_char}
use Rattle.std.specs.Str.{chars}
use lib.Utf8.{encode, encodes}
use Rattle.nfg_decode.specs.Utf8.{IsFirst}
use Rattle.nfg_decode.proofs.StepLemmas.{spells_one, spells_two, spells_three, spells_four}

-- the first sequence has one to four bytes, and what its first byte says of the others
pub record One (t : List ℕ) : Type 0 where
  pub least : get_or t 0 0 < 0x80
  pub first : IsFirst t 1 (get_or t 0 0)

pub record Two (t : List ℕ) : Type 0 where
  pub least : 0xC0 ≤ get_or t 0 0
  pub most : get_or t 0 0 < 0xE0
  pub second : 0x80 ≤ get_or t 1 0
  pub first : IsFirst t 2 ((get_or t 0 0 - 0xC0) * 0x40 + (get_or t 1 0 - 0x80))

pub record Three (t : List ℕ) : Type 0 where
  pub least : 0xE0 ≤ get_or t 0 0
  pub most : get_or t 0 0 < 0xF0
  pub second : 0x80 ≤ get_or t 1 0
  pub third : 0x80 ≤ get_or t 2 0
  pub first : IsFirst t 3 ((get_or t 0 0 - 0xE0) * 0x1000 + (get_or t 1 0 - 0x80) * 0x40 + (get_or t 2 0 - 0x80))

pub record Four (t : List ℕ) : Type 0 where
  pub least : 0xF0 ≤ get_or t 0 0
  pub second : 0x80 ≤ get_or t 1 0
  pub third : 0x80 ≤ get_or t 2 0
  pub fourth : 0x80 ≤ get_or t 3 0
  pub first : IsFirst t 4 ((get_or t 0 0 - 0xF0) * 0x40000 + (get_or t 1 0 - 0x80) * 0x1000 + (get_or t 2 0 - 0x80) * 0x40 + (get_or t 3 0 - 0x80))

pub data Sized (t : List ℕ) : Type 0 where
  one : One t → Sized t
  two : Two t → Sized t
  three : Three t → Sized t
  four : Four t → Sized t

-- a character, and the bytes behind it
module _ (t rest : List ℕ) (c : ℕ) (u : IsUtf8 t) (split : t ≡ encode c ++ rest) where
  first_is : (n code : ℕ) → n ≤ length t → drop n t ≡ rest → c ≡ code → IsFirst t n code
  first_is n code within behind is = record {
    within = within;
    rest = subst IsUtf8 (sym behind) (IsUtf8-past_char t rest c u split);
    codes = chars_past_char t rest c u split ∙ ap (λ x. x ∷ chars rest) is ∙ ap (λ l. code ∷ chars l) (sym behind);
  }

  one_is : c < 0x80 → One t
  one_is h =
      let e : t ≡ c ∷ rest = split ∙ ap (λ l. l ++ rest) (spells_one c h) in
      let first : get_or t 0 0 ≡ c = ap (λ l. get_or l 0 0) e in
      record { least = omega arith; first = first_is 1 (get_or t 0 0) (omega (arith, ap length e)) (ap (drop 1) e) (sym first) }

  two_is : 0x80 ≤ c → c < 0x800 → Two t
  two_is l h =
      let e : t ≡ (192 + c / 64) ∷ (128 + c % 64) ∷ rest =
      split ∙ ap (λ l. l ++ rest) (spells_two (192 + c / 64) (128 + c % 64) c l h refl refl) in
      let first : get_or t 0 0 ≡ 192 + c / 64 = ap (λ l. get_or l 0 0) e in
      let second : get_or t 1 0 ≡ 128 + c % 64 = ap (λ l. get_or l 1 0) e in
      record {
        least = omega arith;
        most = omega arith;
        second = omega arith;
        first = first_is 2 _ (omega (arith, ap length e)) (ap (drop 2) e) (omega arith);
      }

  three_is : 0x800 ≤ c → c < 0x10000 → Three t
  three_is l h =
      let e : t ≡ (224 + c / 4096) ∷ (128 + c / 64 % 64) ∷ (128 + c % 64) ∷ rest =
      split ∙ ap (λ l. l ++ rest) (spells_three (224 + c / 4096) (128 + c / 64 % 64) (128 + c % 64) c l h refl refl refl) in
      let first : get_or t 0 0 ≡ 224 + c / 4096 = ap (λ l. get_or l 0 0) e in
      let second : get_or t 1 0 ≡ 128 + c / 64 % 64 = ap (λ l. get_or l 1 0) e in
      let third : get_or t 2 0 ≡ 128 + c % 64 = ap (λ l. get_or l 2 0) e in
      record {
        least = omega arith;
        most = omega arith;
        second = omega arith;
        third = omega arith;
        first = first_is 3 _ (omega (arith, ap length e)) (ap (drop 3) e) (omega arith);
      }

  four_is : 0x10000 ≤ c → Four t
  four_is l =
      let e : t ≡ (240 + c / 262144) ∷ (128 + c / 4096 % 64) ∷ (128 + c / 64 % 64) ∷ (128 + c % 64) ∷ rest =
      split ∙ ap (λ l. l ++ rest) (spells_four (240 + c / 262144) (128 + c / 4096 % 64) (128 + c / 64 % 64) (128 + c % 64) c l refl refl refl refl) in
      let first : get_or t 0 0 ≡ 240 + c / 262144 = ap (λ l. get_or l 0 0) e in
      let second : get_or t 1 0 ≡ 128 + c / 4096 % 64 = ap (λ l. get_or l 1 0) e in
      let third : get_or t 2 0 ≡ 128 + c / 64 % 64 = ap (λ l. get_or l 2 0) e in
      let fourth : get_or t 3 0 ≡ 128 + c % 64 = ap (λ l. get_or l 3 0) e in
      record {
        least = omega arith;
        second = omega arith;
        third = omega arith;
        fourth = omega arith;
        first = first_is 4 _ (omega (arith, ap length e)) (ap (drop 4) e) (omega arith);
      }

  sized_by : Sized t
  sized_by = elim (cases_lt c 0x80) [
    | inl h ↦ one (one_is h)
    | inr l ↦ elim (cases_lt c 0x800) [
      | inl h ↦ two (two_is l h)
      | inr l ↦ elim (cases_lt c 0x10000) [
        | inl h ↦ three (three_is l h)
        | inr l ↦ four (four_is l)
      ]
    ]
  ]

sized_from : (cs t : List ℕ) → IsUtf8 t → encodes cs ≡ t → 0 < length t → Sized t
sized_from [] t u e some = absurd (omega (arith, ap length e))
sized_from (c ∷ cs) t u e some = sized_by t (encodes cs) c u (sym e)

pub sized : (t : List ℕ) → IsUtf8 t → 0 < length t → Sized t
sized t u some = sized_from u.0 t u u.1.1 some

-- the size is what the first byte says
pub one_first : (t : List ℕ) → IsUtf8 t → 0 < length t → get_or t 0 0 < 0x80 → One t
one_first t u some h = elim (sized t u some) [
  | one s ↦ s
  | two s ↦ absurd (omega (arith, s.least))
  | three s ↦ absurd (omega (arith, s.least))
  | four s ↦ absurd (omega (arith, s.least))
]

pub two_first : (t : List ℕ) → IsUtf8 t → 0 < length t → 0x80 ≤ get_or t 0 0 → get_or t 0 0 < 0xE0 → Two t
two_first t u some l h = elim (sized t u some) [
  | one s ↦ absurd (omega (arith, s.least))
  | two s ↦ s
  | three s ↦ absurd (omega (arith, s.least))
  | four s ↦ absurd (omega (arith, s.least))
]

pub three_first : (t : List ℕ) → IsUtf8 t → 0 < length t → 0xE0 ≤ get_or t 0 0 → get_or t 0 0 < 0xF0 → Three t
three_first t u some l h = elim (sized t u some) [
  | one s ↦ absurd (omega (arith, s.least))
  | two s ↦ absurd (omega (arith, s.most))
  | three s ↦ s
  | four s ↦ absurd (omega (arith, s.least))
]

pub four_first : (t : List ℕ) → IsUtf8 t → 0 < length t → 0xF0 ≤ get_or t 0 0 → Four t
four_first t u some l = elim (sized t u some) [
  | one s ↦ absurd (omega (arith, s.least))
  | two s ↦ absurd (omega (arith, s.most))
  | three s ↦ absurd (omega (arith, s.most))
  | four s ↦ s
]
