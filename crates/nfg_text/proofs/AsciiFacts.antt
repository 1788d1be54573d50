-- The facts on the code points below 80, and on what decomposes to a text that begins with one.
use Rattle.std.proofs.Common.{◌≡◌, ℕ, ◌<◌, Bool, true, false, not, ◌&&◌, ◌||◌, ◌==◌, nat_lt, List, [], ◌∷◌, map, unwrap_or, refl, sym, ap, ap₂, ◌∙◌, arith, inl, inr, lt-ltb, ltb-true}
use Rattle.std.proofs.lemmas.Bool.{cases_Bool, and_from, and_parts}
use Rattle.ucd_breaks.specs.GraphemeClusterBreak.{grapheme_cluster_break as class}
use Rattle.ucd_breaks.specs.declared.GraphemeClusterBreak.{GraphemeClusterBreak}
use Rattle.ucd_breaks.specs.declared.GraphemeClusterBreak.TheVariants.{Control, Cr, Lf, Other}
use Rattle.ucd_breaks.proofs.GraphemeClusterBreakLemmas.{grapheme_cluster_break_stepped}
use Rattle.ucd_derived.specs.IndicConjunctBreak.{indic_conjunct_break as conjunct}
use Rattle.ucd_derived.specs.declared.IndicConjunctBreak.{IndicConjunctBreak}
use Rattle.ucd_derived.specs.declared.IndicConjunctBreak.TheVariants as InCb
use Rattle.ucd_derived.proofs.IndicConjunctBreakLemmas.{indic_conjunct_break_stepped}
use Rattle.ucd_emoji.specs.Binary.{is_extended_pictographic}
use Rattle.ucd_normal.specs.Decomposition.{decomposition, or_itself}
use Rattle.ucd_normal.specs.declared.forms.Form.TheVariants.{Nfd, Nfc}
use Rattle.ucd_normal.proofs.CompositionLemmas.{is_empty}
use Rattle.ucd_table.proofs.Computing.{tables}
use Rattle.ucd_table.proofs.Facts.{Stepped-below}
use Rattle.unicode_normalization.specs.Hangul.{is_syllable}
use Rattle.unicode_normalization.proofs.DecomposeLemmas.{decompose-other, decompose-final, is_empty-full}
use Rattle.unicode_normalization.proofs.FormsLemmas.{is_final-Nfd, class-latin, quick_check-ascii}
use Rattle.unicode_segmentation.specs.Grapheme.{break_by_pair, ends_in_linker, ends_in_pictograph, ends_in_half_flag, is_consonant, is_zwj, is_regional, is_grapheme_break}
use Rattle.nfg_text.specs.Facts.{BeginsWith, AsciiStandsAlone, AsciiPairsBreak, AsciiCompositesAreOrdinary}
use Rattle.nfg_text.specs.Graphemes.{is_stable_pair}
use Rattle.nfg_text.proofs.HangulFacts.{leading_bounds}
use Rattle.nfg_text.proofs.Reading.{Reading, rows, trees, expanded, is_whole, passes_mapped, at_mapped}

pub ascii_stands_alone : AsciiStandsAlone
ascii_stands_alone c low =
    record {
      starter = class-latin c (omega arith);
      whole = decompose-final Nfd c (is_final-Nfd c (quick_check-ascii Nfd c low));
      passes = quick_check-ascii Nfc c low;
    }

-- ---- break properties below 80

-- the break classes that occur there
abbrev pub is_ascii_class : GraphemeClusterBreak → Bool
is_ascii_class Other = true
is_ascii_class Control = true
is_ascii_class Cr = true
is_ascii_class Lf = true
is_ascii_class _ = false

abbrev is_cr : GraphemeClusterBreak → Bool
is_cr Cr = true
is_cr _ = false

abbrev is_lf : GraphemeClusterBreak → Bool
is_lf Lf = true
is_lf _ = false

abbrev is_none : IndicConjunctBreak → Bool
is_none InCb.None = true
is_none _ = false

pub ascii_class : (c : ℕ) → c < 0x80 → is_ascii_class (class c) ≡ true
unfolding tables grapheme_cluster_break_stepped
ascii_class = Stepped-below class grapheme_cluster_break_stepped (λ _ v. is_ascii_class v) 0x80 refl

only_cr : (c : ℕ) → c < 0x80 → (not (is_cr (class c)) || (c == 0xD)) ≡ true
unfolding tables grapheme_cluster_break_stepped
only_cr = Stepped-below class grapheme_cluster_break_stepped (λ x v. not (is_cr v) || (x == 0xD)) 0x80 refl

only_lf : (c : ℕ) → c < 0x80 → (not (is_lf (class c)) || (c == 0xA)) ≡ true
unfolding tables grapheme_cluster_break_stepped
only_lf = Stepped-below class grapheme_cluster_break_stepped (λ x v. not (is_lf v) || (x == 0xA)) 0x80 refl

has_no_conjunct : (c : ℕ) → c < 0x80 → is_none (conjunct c) ≡ true
unfolding tables indic_conjunct_break_stepped
has_no_conjunct = Stepped-below conjunct indic_conjunct_break_stepped (λ _ v. is_none v) 0x80 refl

pub class_of_line_feed : class 0xA ≡ Lf
unfolding tables grapheme_cluster_break_stepped
class_of_line_feed = refl

-- ---- a boundary after a code point below 80

neighbors_break : (l v : GraphemeClusterBreak) (otherwise : Bool) → is_ascii_class l ≡ true → is_ascii_class v ≡ true → (is_cr l && is_lf v) ≡ false → otherwise ≡ true → unwrap_or (break_by_pair true l v) otherwise ≡ true
neighbors_break Other Other otherwise p q apart h = h
neighbors_break Other Control otherwise p q apart h = refl
neighbors_break Other Cr otherwise p q apart h = refl
neighbors_break Other Lf otherwise p q apart h = refl
neighbors_break Other _ otherwise p q apart h = cc
neighbors_break Cr Lf otherwise p q apart h = cc
neighbors_break Cr Control otherwise p q apart h = refl
neighbors_break Cr Cr otherwise p q apart h = refl
neighbors_break Cr Other otherwise p q apart h = refl
neighbors_break Cr _ otherwise p q apart h = cc
neighbors_break Control v otherwise p q apart h = refl
neighbors_break Lf v otherwise p q apart h = refl
neighbors_break _ v otherwise p q apart h = cc

no_joiner : (v : GraphemeClusterBreak) → is_ascii_class v ≡ true → is_zwj v ≡ false
no_joiner Other h = refl
no_joiner Control h = refl
no_joiner Cr h = refl
no_joiner Lf h = refl
no_joiner _ h = cc

no_flag : (v : GraphemeClusterBreak) → is_ascii_class v ≡ true → is_regional v ≡ false
no_flag Other h = refl
no_flag Control h = refl
no_flag Cr h = refl
no_flag Lf h = refl
no_flag _ h = cc

no_linker : (v : IndicConjunctBreak) (before : List IndicConjunctBreak) → is_none v ≡ true → ends_in_linker (v ∷ before) ≡ false
unfolding ends_in_linker
no_linker InCb.None before h = refl
no_linker _ before h = cc

break_after : (a next : ℕ) (before after : List ℕ) → a < 0x80 → is_ascii_class (class next) ≡ true → (is_cr (class a) && is_lf (class next)) ≡ false → is_grapheme_break true (a ∷ before) (next ∷ after) ≡ true
unfolding is_grapheme_break ends_in_half_flag
break_after a next before after low ordinary apart =
    let own = ascii_class a low in
    let conjunct_free = ap (λ b. b && is_consonant (conjunct next)) (no_linker (conjunct a) (map conjunct before) (has_no_conjunct a low)) in
    let emoji_free = ap (λ b. b && ends_in_pictograph before && is_extended_pictographic next) (no_joiner (class a) own) in
    let flag_free = ap (λ b. (b && not (ends_in_half_flag before)) && is_regional (class next)) (no_flag (class a) own) in
    neighbors_break (class a) (class next) _ own ordinary apart (ap not (ap₂ ◌||◌ (ap₂ ◌||◌ conjunct_free emoji_free) flag_free))

-- CR LF is the one pair of these classes that holds together
apart_from : (x y p q : Bool) → (not x || p) ≡ true → (not y || q) ≡ true → not (p && q) ≡ true → (x && y) ≡ false
apart_from false y p q h k apart = refl
apart_from true false p q h k apart = refl
apart_from true true true true h k apart = cc
apart_from true true true false h k apart = cc
apart_from true true false q h k apart = cc

never_and : (x : Bool) → (x && false) ≡ false
never_and true = refl
never_and false = refl

-- the two code points of a stable pair
pub record PairParts (a b : ℕ) : Type 0 where
  pub left : a < 0x80
  pub right : b < 0x80
  pub no_line_end : not ((a == 0xD) && (b == 0xA)) ≡ true

pub pair_parts : (a b : ℕ) → is_stable_pair a b ≡ true → PairParts a b
pair_parts a b stable =
    let parts = and_parts (nat_lt a 0x80 && nat_lt b 0x80) (not ((a == 0xD) && (b == 0xA))) stable in
    let lows = and_parts (nat_lt a 0x80) (nat_lt b 0x80) parts.0 in
    record { left = ltb-true a 0x80 lows.0; right = ltb-true b 0x80 lows.1; no_line_end = parts.1 }

classes_apart : (a b : ℕ) → PairParts a b → (is_cr (class a) && is_lf (class b)) ≡ false
classes_apart a b pair =
    apart_from (is_cr (class a)) (is_lf (class b)) (a == 0xD) (b == 0xA) (only_cr a pair.left) (only_lf b pair.right) pair.no_line_end

pub ascii_pairs_break : AsciiPairsBreak
ascii_pairs_break a b before after stable =
    let pair = pair_parts a b stable in break_after a b before after pair.left (ascii_class b pair.right) (classes_apart a b pair)

-- ---- what decomposes to a text that begins below 80

abbrev is_other : GraphemeClusterBreak → Bool
is_other Other = true
is_other _ = false

abbrev begins_low : List ℕ → Bool
begins_low [] = false
begins_low (first ∷ rest) = nat_lt first 0x80

abbrev low_is_ordinary : Reading → ℕ → Bool
low_is_ordinary reading c = not (begins_low (expanded reading c)) || is_other (reading.break_class c)

lows_are_ordinary : (c : ℕ) → is_whole (decomposition c) ≡ false → low_is_ordinary rows c ≡ true
unfolding trees passes_mapped
lows_are_ordinary = at_mapped low_is_ordinary refl

other_from : (v : GraphemeClusterBreak) → is_other v ≡ true → v ≡ Other
other_from Other h = refl
other_from _ h = cc

ordinary_by : (c first : ℕ) (rest parts : List ℕ) → is_empty parts ≡ false → or_itself c parts ≡ first ∷ rest → first < 0x80 → (not (begins_low parts) || is_other (class c)) ≡ true → class c ≡ Other
ordinary_by c first rest [] some spelled low test = cc
ordinary_by c first rest (x ∷ xs) some spelled low test =
    let same : x ≡ first = cc in
    let below : nat_lt x 0x80 ≡ true = lt-ltb x 0x80 (omega arith) in
    other_from (class c) (ap (λ b. not b || is_other (class c)) (sym below) ∙ test)

pub ascii_composites_are_ordinary : AsciiCompositesAreOrdinary
ascii_composites_are_ordinary c first low begins =
    elim (cases_Bool (is_syllable c)) [
      | inl syllable ↦ let bounds = leading_bounds c first syllable begins in absurd (omega arith)
      | inr other ↦
          elim (cases_Bool (is_whole (decomposition c))) [
            | inl whole ↦ let alone = sym (decompose-final Nfd c (and_from _ _ whole (ap not other))) ∙ begins.1 in inl cc
            | inr some ↦
                inr (ordinary_by c first begins.0 (expanded rows c) (is_empty-full Nfd c ∙ some) (sym (decompose-other Nfd c other) ∙ begins.1) low (lows_are_ordinary c some))
          ]
    ]

-- ---- with what the pair's second code point may compose

-- whatever the second of a stable pair is composed to, a boundary stays before it
pub break_before_composed : (a b composed : ℕ) (before after : List ℕ) → is_stable_pair a b ≡ true → BeginsWith b composed → is_grapheme_break true (a ∷ before) (composed ∷ after) ≡ true
break_before_composed a b composed before after stable begins =
    let pair = pair_parts a b stable in
    elim (ascii_composites_are_ordinary composed b pair.right begins) [
      | inl same ↦
          break_after a composed before after pair.left (ap (λ x. is_ascii_class (class x)) same ∙ ascii_class b pair.right) (ap (λ x. is_cr (class a) && is_lf (class x)) same ∙ classes_apart a b pair)
      | inr other ↦
          break_after a composed before after pair.left (ap is_ascii_class other) (ap (λ v. is_cr (class a) && is_lf v) other ∙ never_and (is_cr (class a)))
    ]
