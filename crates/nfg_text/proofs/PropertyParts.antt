-- The parts of the number of a code point.
use Rattle.std.proofs.Common.{◌≡◌, ℕ, ◌/◌, ◌%◌, ◌<◌, Bool, true, false, not, ◌&&◌, ◌==◌, nat_lt, refl, sym, ap, ◌∙◌, arith, lt-ltb, le-ltb, div-add-mod'}
use Rattle.std.proofs.lemmas.Nat.{mod_below}
use Rattle.ucd_breaks.specs.GraphemeClusterBreak.{grapheme_cluster_break, grapheme_cluster_break_number, grapheme_cluster_break_from_number}
use Rattle.ucd_breaks.proofs.GraphemeClusterBreakLemmas.{grapheme_cluster_break_from_number-grapheme_cluster_break_number, grapheme_cluster_break_number-lt}
use Rattle.ucd_derived.specs.IndicConjunctBreak.{indic_conjunct_break, indic_conjunct_break_number, indic_conjunct_break_from_number}
use Rattle.ucd_derived.proofs.IndicConjunctBreakLemmas.{indic_conjunct_break_from_number-indic_conjunct_break_number, indic_conjunct_break_number-lt}
use Rattle.ucd_emoji.specs.Binary.{is_extended_pictographic}
use Rattle.nfg_text.specs.Graphemes.{starts_safely}
use Rattle.nfg_text.specs.Plain.{is_plain, is_ordinary}
use Rattle.nfg_text.specs.Properties.{bit, joined, properties_number, is_plain_number}
use Rattle.nfg_text.proofs.PropertyFacts.{plain_by_number}

bit_below : (b : Bool) → bit b < 2
bit_below true = omega arith
bit_below false = omega arith

bit_is : (b : Bool) → (bit b == 1) ≡ b
bit_is true = refl
bit_is false = refl

first_part : (a b p s : ℕ) → a < 14 → joined a b p s % 16 ≡ a
first_part a b p s la = let n = joined a b p s in omega (arith, div-add-mod' n 16, mod_below n 16 (omega arith))

second_part : (a b p s : ℕ) → a < 14 → b < 4 → joined a b p s / 16 % 4 ≡ b
second_part a b p s la lb =
    let n = joined a b p s in
    let m = n / 16 in
    omega (arith, div-add-mod' n 16, mod_below n 16 (omega arith), div-add-mod' m 4, mod_below m 4 (omega arith))

third_part : (a b p s : ℕ) → a < 14 → b < 4 → p < 2 → joined a b p s / 64 % 2 ≡ p
third_part a b p s la lb lp =
    let n = joined a b p s in
    let m = n / 64 in
    omega (arith, div-add-mod' n 64, mod_below n 64 (omega arith), div-add-mod' m 2, mod_below m 2 (omega arith))

last_part : (a b p : ℕ) (safe : Bool) → a < 14 → b < 4 → p < 2 → nat_lt (joined a b p (bit (not safe))) 128 ≡ safe
last_part a b p true la lb lp = lt-ltb _ 128 (omega arith)
last_part a b p false la lb lp = le-ltb _ 128 (omega arith)

module _ (c : ℕ) where
  class_below : grapheme_cluster_break_number (grapheme_cluster_break c) < 14
  class_below = grapheme_cluster_break_number-lt (grapheme_cluster_break c)

  conjunct_below : indic_conjunct_break_number (indic_conjunct_break c) < 4
  conjunct_below = indic_conjunct_break_number-lt (indic_conjunct_break c)

  pub class_number : properties_number c % 16 ≡ grapheme_cluster_break_number (grapheme_cluster_break c)
  unfolding properties_number
  class_number = first_part _ _ _ _ class_below

  pub class_in_number : grapheme_cluster_break_from_number (properties_number c % 16) ≡ grapheme_cluster_break c
  class_in_number = ap grapheme_cluster_break_from_number class_number ∙ grapheme_cluster_break_from_number-grapheme_cluster_break_number (grapheme_cluster_break c)

  pub conjunct_number : properties_number c / 16 % 4 ≡ indic_conjunct_break_number (indic_conjunct_break c)
  unfolding properties_number
  conjunct_number = second_part _ _ _ _ class_below conjunct_below

  pub conjunct_in_number : indic_conjunct_break_from_number (properties_number c / 16 % 4) ≡ indic_conjunct_break c
  conjunct_in_number = ap indic_conjunct_break_from_number conjunct_number ∙ indic_conjunct_break_from_number-indic_conjunct_break_number (indic_conjunct_break c)

  pub pictograph_in_number : (properties_number c / 64 % 2 == 1) ≡ is_extended_pictographic c
  unfolding properties_number
  pictograph_in_number =
      ap (λ n. n == 1) (third_part _ _ _ _ class_below conjunct_below (bit_below (is_extended_pictographic c))) ∙ bit_is (is_extended_pictographic c)

  pub safety_in_number : nat_lt (properties_number c) 128 ≡ starts_safely c
  unfolding properties_number
  safety_in_number = last_part _ _ _ (starts_safely c) class_below conjunct_below (bit_below (is_extended_pictographic c))

  pub is_plain-below : nat_lt c 0x11_0000 ≡ true → is_plain c ≡ is_plain_number (properties_number c)
  unfolding is_plain
  is_plain-below low = ap (λ b. b && (starts_safely c && is_ordinary c)) low ∙ sym (plain_by_number c)

  pub is_plain-above : nat_lt c 0x11_0000 ≡ false → is_plain c ≡ false
  unfolding is_plain
  is_plain-above high = ap (λ b. b && (starts_safely c && is_ordinary c)) high
