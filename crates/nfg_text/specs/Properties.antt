-- The properties of a code point that this crate reads, in one number (this project's own).
use Rattle.std.specs.Prelude.{ℕ, ◌+◌, ◌*◌, Bool, true, false, not, ◌==◌, ◌||◌}
use Rattle.ucd_breaks.specs.GraphemeClusterBreak.{grapheme_cluster_break, grapheme_cluster_break_number}
use Rattle.ucd_derived.specs.IndicConjunctBreak.{indic_conjunct_break, indic_conjunct_break_number}
use Rattle.ucd_emoji.specs.Binary.{is_extended_pictographic}
use Rattle.nfg_text.specs.Graphemes.{starts_safely}

-- 1 where it is so
abbrev pub bit : Bool → ℕ
bit true = 1
bit false = 0

-- four parts as digits: one below 16, one below 4, and two below 2
abbrev pub joined : ℕ → ℕ → ℕ → ℕ → ℕ
joined class conjunct picture unsafe = class + 16 * conjunct + 64 * picture + 128 * unsafe

-- the break class, the conjunct value, whether it is a pictograph, and whether it does not start safely
unfoldable pub properties_number : ℕ → ℕ
properties_number c =
    joined (grapheme_cluster_break_number (grapheme_cluster_break c)) (indic_conjunct_break_number (indic_conjunct_break c))
    (bit (is_extended_pictographic c)) (bit (not (starts_safely c)))

-- the number of a code point that starts safely, is neither in a conjunct nor a pictograph, and has the class
-- Other, LV or LVT
abbrev pub is_plain_number : ℕ → Bool
is_plain_number n = (n == 60) || (n == 53) || (n == 54)
