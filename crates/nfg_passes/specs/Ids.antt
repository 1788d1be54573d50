-- Ids of code points: one byte for all that the passes read of one (this project's own).
use Rattle.std.specs.Prelude.{◌≡◌, ℕ, ◌<◌, ◌≤◌, ◌/◌, ◌%◌, Bool, ◌==◌, nat_lt, slice_index}
use Rattle.std.specs.List.{position_or_len}
use Rattle.ucd_breaks.specs.GraphemeClusterBreak.{grapheme_cluster_break, grapheme_cluster_break_from_number}
use Rattle.ucd_breaks.specs.declared.GraphemeClusterBreak.{GraphemeClusterBreak}
use Rattle.ucd_derived.specs.IndicConjunctBreak.{indic_conjunct_break, indic_conjunct_break_from_number}
use Rattle.ucd_derived.specs.declared.IndicConjunctBreak.{IndicConjunctBreak}
use Rattle.ucd_emoji.specs.Binary.{is_extended_pictographic}
use Rattle.ucd_normal.specs.CanonicalCombiningClass.{canonical_combining_class}
use Rattle.unicode_normalization.specs.Forms.{Nfc}
use Rattle.unicode_normalization.specs.QuickCheck.{quick_check}
use Rattle.nfg_text.specs.Graphemes.{is_yes, starts_safely}
use Rattle.nfg_passes.specs.Attributes.{attributes, attributes_in_order}

-- the place of the attributes of a code point in their order
unfoldable pub id_number : ℕ → ℕ
id_number c = position_or_len (λ a. a == attributes c) attributes_in_order

-- how many ids there are
abbrev pub id_count : ℕ
id_count = 88

-- the ids below it are those of code points that start safely
abbrev pub first_mark : ℕ
first_mark = 18

-- the ids below it are those of code points whose quick check is Yes
abbrev pub first_doubtful : ℕ
first_doubtful = 71

-- ---- what an id tells

unfoldable pub attributes_of_id : ℕ → ℕ
attributes_of_id id = slice_index attributes_in_order id

abbrev pub class_of_id : ℕ → GraphemeClusterBreak
class_of_id id = grapheme_cluster_break_from_number (attributes_of_id id % 16)

abbrev pub conjunct_of_id : ℕ → IndicConjunctBreak
conjunct_of_id id = indic_conjunct_break_from_number (attributes_of_id id / 16 % 4)

abbrev pub is_pictograph_id : ℕ → Bool
is_pictograph_id id = attributes_of_id id / 64 % 2 == 1

abbrev pub combining_class_of_id : ℕ → ℕ
combining_class_of_id id = attributes_of_id id / 128 % 256

-- the id of a code point tells what the rules and the normal form read of it
pub record IsToldById (c : ℕ) : Type 0 where
  pub bound : id_number c < id_count
  pub class : class_of_id (id_number c) ≡ grapheme_cluster_break c
  pub conjunct : conjunct_of_id (id_number c) ≡ indic_conjunct_break c
  pub pictograph : is_pictograph_id (id_number c) ≡ is_extended_pictographic c
  pub combining_class : combining_class_of_id (id_number c) ≡ canonical_combining_class c
  pub safe : nat_lt (id_number c) first_mark ≡ starts_safely c
  pub yes : nat_lt (id_number c) first_doubtful ≡ is_yes (quick_check Nfc c)

abbrev pub IdsTell : Type 0
IdsTell = (c : ℕ) → IsToldById c

-- among the marks whose quick check is Yes, ids rise with the combining class
abbrev pub MarksRise : Type 0
MarksRise =
    (a b : ℕ) → first_mark ≤ a → a ≤ b → b < first_doubtful → combining_class_of_id a ≤ combining_class_of_id b
