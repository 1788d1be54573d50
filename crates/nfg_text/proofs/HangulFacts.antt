-- What the laws need of Hangul, whose syllables decompose and compose by arithmetic.
use Rattle.std.proofs.Common.{◌≡◌, ℕ, ◌+◌, ◌-◌, ◌/◌, ◌%◌, ◌≤◌, Bool, true, false, not, ◌&&◌, ◌||◌, ◌==◌, List, [], ◌∷◌, None, refl, sym, ap, ◌∙◌, arith, inl, inr, eqb-true, le-leb}
use Rattle.std.proofs.lemmas.Bool.{cases_Bool, and_from, cond-false, eqb-false}
use Rattle.ucd_breaks.specs.GraphemeClusterBreak.{grapheme_cluster_break}
use Rattle.ucd_breaks.specs.declared.GraphemeClusterBreak.{GraphemeClusterBreak}
use Rattle.ucd_breaks.specs.declared.GraphemeClusterBreak.TheVariants.{L, Lv, Lvt}
use Rattle.ucd_breaks.proofs.GraphemeClusterBreakLemmas.{grapheme_cluster_break_stepped}
use Rattle.ucd_table.specs.Rows.{Range, in_ranges}
use Rattle.ucd_table.proofs.Computing.{tables}
use Rattle.ucd_table.proofs.Stepped.{Stepped, of_ranges, zip_stepped}
use Rattle.ucd_table.proofs.StepsLemmas.{rises_from}
use Rattle.unicode_normalization.specs.Forms.{Nfd}
use Rattle.unicode_normalization.specs.Hangul.{is_syllable, is_leading_consonant, is_vowel, is_trailing_consonant, compose_hangul, s_base, t_count}
use Rattle.unicode_normalization.proofs.DecomposeLemmas.{decompose-syllable}
use Rattle.unicode_normalization.proofs.HangulLemmas.{is_among-true, is_syllable-true, decompose_hangul-two, decompose_hangul-three}
use Rattle.nfg_text.specs.Facts.{is_control, BeginsWith}
use Rattle.nfg_text.proofs.Everywhere.{at_all, always, excluded, implied}

abbrev pub syllables : List Range
syllables = (0xAC00, 0xD7A3) ∷ []

abbrev pub leading_consonants : List Range
leading_consonants = (0x1100, 0x1112) ∷ []

unfoldable pub syllables_stepped : Stepped (in_ranges syllables)
unfolding rises_from
syllables_stepped = of_ranges syllables refl

unfoldable pub leading_consonants_stepped : Stepped (in_ranges leading_consonants)
unfolding rises_from
leading_consonants_stepped = of_ranges leading_consonants refl

in_range : (low high c : ℕ) → low ≤ c → c ≤ high → in_ranges ((low, high) ∷ []) c ≡ true
unfolding in_ranges
in_range low high c above below = ap (λ b. b || false) (and_from _ _ (le-leb low c above) (le-leb c high below))

pub syllable_in_range : (c : ℕ) → is_syllable c ≡ true → in_ranges syllables c ≡ true
syllable_in_range c syllable = let bounds = is_syllable-true c syllable in in_range 0xAC00 0xD7A3 c (omega arith) (omega arith)

pub leading_in_range : (c : ℕ) → 0x1100 ≤ c → c ≤ 0x1112 → in_ranges leading_consonants c ≡ true
leading_in_range c = in_range 0x1100 0x1112 c

-- ---- a syllable begins with a leading consonant

-- the leading consonant of a syllable
abbrev pub leading_of : ℕ → ℕ
leading_of c = 0x1100 + (c - 0xAC00) / 588

pub syllable_begins : (c first : ℕ) → is_syllable c ≡ true → BeginsWith first c → leading_of c ≡ first
syllable_begins c first syllable begins =
    let spelled = sym (decompose-syllable Nfd c syllable) ∙ begins.1 in
    elim (cases_Bool ((c - 0xAC00) % 28 == 0)) [
      | inl two ↦ let parts = sym (decompose_hangul-two c (eqb-true _ _ two)) ∙ spelled in cc
      | inr three ↦ let parts = sym (decompose_hangul-three c (eqb-false _ _ three)) ∙ spelled in cc
    ]

pub leading_bounds : (c first : ℕ) → is_syllable c ≡ true → BeginsWith first c → (0x1100 ≤ first) × (first ≤ 0x1112)
leading_bounds c first syllable begins =
    let bounds = is_syllable-true c syllable in
    let same = syllable_begins c first syllable begins in
    (omega arith, omega arith)

-- ---- a control is none of Hangul

syllable_is_no_control : (c : ℕ) → (not (in_ranges syllables c) || not (is_control (grapheme_cluster_break c))) ≡ true
unfolding tables always syllables_stepped grapheme_cluster_break_stepped
syllable_is_no_control =
    at_all _ (zip_stepped (λ b w. not b || not (is_control w)) (in_ranges syllables) grapheme_cluster_break syllables_stepped grapheme_cluster_break_stepped) refl

leading_is_no_control : (c : ℕ) → (not (in_ranges leading_consonants c) || not (is_control (grapheme_cluster_break c))) ≡ true
unfolding tables always leading_consonants_stepped grapheme_cluster_break_stepped
leading_is_no_control =
    at_all _ (zip_stepped (λ b w. not b || not (is_control w)) (in_ranges leading_consonants) grapheme_cluster_break leading_consonants_stepped grapheme_cluster_break_stepped) refl

pub control_is_no_syllable : (c : ℕ) → is_control (grapheme_cluster_break c) ≡ true → is_syllable c ≡ false
control_is_no_syllable c control =
    elim (cases_Bool (is_syllable c)) [
      | inl syllable ↦ let clash = sym control ∙ excluded _ _ (syllable_is_no_control c) (syllable_in_range c syllable) in cc
      | inr other ↦ other
    ]

control_is_no_leading : (c : ℕ) → is_control (grapheme_cluster_break c) ≡ true → is_leading_consonant c ≡ false
control_is_no_leading c control =
    elim (cases_Bool (is_leading_consonant c)) [
      | inl leading ↦
          let bounds = is_among-true 0x1100 19 c leading in
          let clash = sym control ∙ excluded _ _ (leading_is_no_control c) (leading_in_range c (omega arith) (omega arith)) in cc
      | inr other ↦ other
    ]

pub control_composes_no_hangul : (c next : ℕ) → is_control (grapheme_cluster_break c) ≡ true → compose_hangul c next ≡ None
unfolding compose_hangul
control_composes_no_hangul c next control =
    cond-false _ _ _ (ap (λ b. b && is_vowel next) (control_is_no_leading c control))
    ∙ cond-false _ _ _ (ap (λ b. (b && (c - s_base) % t_count == 0) && is_trailing_consonant next) (control_is_no_syllable c control))

-- ---- the break classes of Hangul

-- the break classes with which a syllable may begin
abbrev pub is_leading_class : GraphemeClusterBreak → Bool
is_leading_class L = true
is_leading_class Lv = true
is_leading_class Lvt = true
is_leading_class _ = false

syllable_class : (c : ℕ) → (not (in_ranges syllables c) || is_leading_class (grapheme_cluster_break c)) ≡ true
unfolding tables always syllables_stepped grapheme_cluster_break_stepped
syllable_class =
    at_all _ (zip_stepped (λ b w. not b || is_leading_class w) (in_ranges syllables) grapheme_cluster_break syllables_stepped grapheme_cluster_break_stepped) refl

leading_class : (c : ℕ) → (not (in_ranges leading_consonants c) || is_leading_class (grapheme_cluster_break c)) ≡ true
unfolding tables always leading_consonants_stepped grapheme_cluster_break_stepped
leading_class =
    at_all _ (zip_stepped (λ b w. not b || is_leading_class w) (in_ranges leading_consonants) grapheme_cluster_break leading_consonants_stepped grapheme_cluster_break_stepped) refl

pub class_of_syllable : (c : ℕ) → is_syllable c ≡ true → is_leading_class (grapheme_cluster_break c) ≡ true
class_of_syllable c syllable = implied _ _ (syllable_class c) (syllable_in_range c syllable)

pub class_of_leading : (c : ℕ) → 0x1100 ≤ c → c ≤ 0x1112 → is_leading_class (grapheme_cluster_break c) ≡ true
class_of_leading c above below = implied _ _ (leading_class c) (leading_in_range c above below)
