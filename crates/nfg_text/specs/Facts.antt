-- Facts on the tables of Unicode 18 that the laws of clusters stand on, each about every code point.
use Rattle.std.specs.Prelude.{◌≡◌, ◌≢◌, ℕ, ◌<◌, ◌≤◌, Bool, true, false, ◌==◌, List, [], ◌∷◌, ◌⊎◌, Some, None}
use Rattle.ucd_breaks.specs.GraphemeClusterBreak.{grapheme_cluster_break}
use Rattle.ucd_breaks.specs.declared.GraphemeClusterBreak.{GraphemeClusterBreak}
use Rattle.ucd_breaks.specs.declared.GraphemeClusterBreak.TheVariants.{Control, Cr, Lf, Extend, SpacingMark, Zwj, Other}
use Rattle.ucd_derived.specs.IndicConjunctBreak.{indic_conjunct_break}
use Rattle.ucd_derived.specs.declared.IndicConjunctBreak.{IndicConjunctBreak}
use Rattle.ucd_derived.specs.declared.IndicConjunctBreak.TheVariants as InCb
use Rattle.ucd_emoji.specs.Binary.{is_extended_pictographic}
use Rattle.ucd_normal.specs.Binary.{is_full_composition_exclusion}
use Rattle.ucd_normal.specs.CanonicalCombiningClass.{canonical_combining_class}
use Rattle.unicode_normalization.specs.Compose.{primary_composite}
use Rattle.unicode_normalization.specs.Decompose.{decompose}
use Rattle.unicode_normalization.specs.Forms.{Nfd, Nfc}
use Rattle.unicode_normalization.specs.Hangul.{is_syllable}
use Rattle.unicode_normalization.specs.QuickCheck.{Yes, No, quick_check}
use Rattle.unicode_segmentation.specs.Grapheme.{is_consonant, is_grapheme_break}
use Rattle.nfg_text.specs.Graphemes.{is_stable_pair}
use Rattle.nfg_text.specs.Plain.{is_plain, StandsApart}

-- the break classes of rule GB9: no cluster ends before them, but after a control
abbrev pub is_extender : GraphemeClusterBreak → Bool
is_extender Extend = true
is_extender Zwj = true
is_extender _ = false

-- those of GB9 and GB9a
abbrev pub is_mark : GraphemeClusterBreak → Bool
is_mark Extend = true
is_mark SpacingMark = true
is_mark Zwj = true
is_mark _ = false

-- those of GB4 and GB5: CR, LF and Control
abbrev pub is_control : GraphemeClusterBreak → Bool
is_control Control = true
is_control Cr = true
is_control Lf = true
is_control _ = false

-- InCB is Extend: what may stand between a linker and a consonant (GB9c)
abbrev pub is_conjunct_extender : IndicConjunctBreak → Bool
is_conjunct_extender InCb.Extend = true
is_conjunct_extender _ = false

-- InCB is Linker: a virama, which holds on to a consonant that follows
abbrev pub is_linker : IndicConjunctBreak → Bool
is_linker InCb.Linker = true
is_linker _ = false

-- InCB Extend gives the break class Extend or ZWJ
abbrev pub ConjunctExtendersExtend : Type 0
ConjunctExtendersExtend =
    (c : ℕ) → is_conjunct_extender (indic_conjunct_break c) ≡ true → is_extender (grapheme_cluster_break c) ≡ true

-- false in Unicode 18: U+1CF5, U+1CF6 and U+11A3A have InCB Linker and the break class Other
abbrev pub LinkersExtend : Type 0
LinkersExtend =
    (c : ℕ) → is_linker (indic_conjunct_break c) ≡ true → is_extender (grapheme_cluster_break c) ≡ true

-- no linker is CR, LF or Control
abbrev pub LinkersAreNoControls : Type 0
LinkersAreNoControls =
    (c : ℕ) → is_linker (indic_conjunct_break c) ≡ true → is_control (grapheme_cluster_break c) ≡ false

-- nor is a pictograph
abbrev pub PictographsAreNoControls : Type 0
PictographsAreNoControls =
    (c : ℕ) → is_extended_pictographic c ≡ true → is_control (grapheme_cluster_break c) ≡ false

-- nor is an Indic consonant
abbrev pub ConsonantsAreNoControls : Type 0
ConsonantsAreNoControls =
    (c : ℕ) → is_consonant (indic_conjunct_break c) ≡ true → is_control (grapheme_cluster_break c) ≡ false

-- a combining class other than 0 gives the break class Extend, SpacingMark or ZWJ
abbrev pub MarksExtend : Type 0
MarksExtend =
    (c : ℕ) → (canonical_combining_class c == 0) ≡ false → is_mark (grapheme_cluster_break c) ≡ true

-- a starter that normalization leaves alone, and with which nothing that follows composes
pub record StandsAlone (c : ℕ) : Type 0 where
  pub starter : canonical_combining_class c ≡ 0
  pub whole : decompose Nfd c ≡ c ∷ []
  pub first_of_none : (next : ℕ) → primary_composite c next ≡ None
  pub passes : quick_check Nfc c ≡ Yes

-- so is every CR, LF and Control
abbrev pub ControlsStandAlone : Type 0
ControlsStandAlone = (c : ℕ) → is_control (grapheme_cluster_break c) ≡ true → StandsAlone c

-- the full decomposition of the code point begins with `first`
abbrev pub BeginsWith : ℕ → ℕ → Type 0
BeginsWith first c = (rest : List ℕ) × (decompose Nfd c ≡ first ∷ rest)

-- a composite of combining class 0 decomposes to a text whose first code point has class 0 too
abbrev pub CompositesStartWithStarters : Type 0
CompositesStartWithStarters =
    (a b composite first : ℕ) → primary_composite a b ≡ Some composite → canonical_combining_class composite ≡ 0
    → BeginsWith first composite → canonical_combining_class first ≡ 0

-- so does every code point of class 0 that a text in NFC may hold
abbrev pub StartersStartWithStarters : Type 0
StartersStartWithStarters =
    (c first : ℕ) → canonical_combining_class c ≡ 0 → quick_check Nfc c ≢ No → BeginsWith first c
    → canonical_combining_class first ≡ 0

-- the break properties of a composite are those of the first code point that it decomposes to
pub record KeepsBreaks (composite first : ℕ) : Type 0 where
  pub class : grapheme_cluster_break composite ≡ grapheme_cluster_break first
  pub conjunct : indic_conjunct_break composite ≡ indic_conjunct_break first
  pub pictograph : (composite == 0x21AE) ≡ false → is_extended_pictographic composite ≡ is_extended_pictographic first

-- Hangul aside, where LV and LVT are composed from L, and U+21AE aside, which is no pictograph as U+2194 is
abbrev pub CompositesKeepBreaks : Type 0
CompositesKeepBreaks =
    (composite first : ℕ) → is_full_composition_exclusion composite ≡ false → is_syllable composite ≡ false
    → BeginsWith first composite → KeepsBreaks composite first

-- a starter below 80 (hexadecimal) that normalization leaves alone
pub record IsAsciiAlone (c : ℕ) : Type 0 where
  pub starter : canonical_combining_class c ≡ 0
  pub whole : decompose Nfd c ≡ c ∷ []
  pub passes : quick_check Nfc c ≡ Yes

-- every code point below 80 is one
abbrev pub AsciiStandsAlone : Type 0
AsciiStandsAlone = (c : ℕ) → c < 0x80 → IsAsciiAlone c

-- whatever comes before and after, a cluster ends between two neighbors below 80, CR LF aside
abbrev pub AsciiPairsBreak : Type 0
AsciiPairsBreak =
    (a b : ℕ) (before after : List ℕ) → is_stable_pair a b ≡ true
    → is_grapheme_break true (a ∷ before) (b ∷ after) ≡ true

-- what decomposes to a text that begins below 80 is that code point, or has the break class Other
abbrev pub AsciiCompositesAreOrdinary : Type 0
AsciiCompositesAreOrdinary =
    (c first : ℕ) → first < 0x80 → BeginsWith first c → (c ≡ first) ⊎ (grapheme_cluster_break c ≡ Other)

-- every plain code point stands apart
abbrev pub PlainStandsApart : Type 0
PlainStandsApart = (c : ℕ) → is_plain c ≡ true → StandsApart c

-- every code point from 20 to 7E is plain
abbrev pub PrintableAsciiIsPlain : Type 0
PrintableAsciiIsPlain = (c : ℕ) → 0x20 ≤ c → c ≤ 0x7E → is_plain c ≡ true

-- every code point of the range is plain
abbrev pub ArePlainFrom : ℕ → ℕ → Type 0
ArePlainFrom first last = (c : ℕ) → first ≤ c → c ≤ last → is_plain c ≡ true
