-- What the cluster rules of UAX #29 read of the text before a place, in a few fields (this project's own).
use Rattle.std.specs.Prelude.{◌≡◌, ℕ, Bool, true, false, ◌&&◌, ◌||◌, List, [], ◌∷◌, map, Option, Some, None}
use Rattle.ucd_breaks.specs.GraphemeClusterBreak.{grapheme_cluster_break, grapheme_cluster_break_number}
use Rattle.ucd_derived.specs.IndicConjunctBreak.{indic_conjunct_break}
use Rattle.ucd_derived.specs.declared.IndicConjunctBreak.{IndicConjunctBreak}
use Rattle.ucd_derived.specs.declared.IndicConjunctBreak.TheVariants.{Linker, Extend}
use Rattle.ucd_emoji.specs.Binary.{is_extended_pictographic}
use Rattle.unicode_segmentation.specs.Grapheme.{ends_in_linker, ends_in_pictograph, ends_in_half_flag, is_consonant, is_zwj, is_regional}
use Rattle.nfg_text.specs.Properties.{properties_number}
use Rattle.nfg_text.specs.declared.breaks.Kind.{Kind}
use Rattle.nfg_text.specs.declared.breaks.Memory.{Memory}

-- the kind is of this code point
abbrev pub IsKindOf : Kind → ℕ → Type 0
IsKindOf kind c = kind.number ≡ properties_number c

-- the number is that of the break class of the last code point, where there is one; `before` is given from its end
abbrev pub IsClassOfLast : ℕ → List ℕ → Type 0
IsClassOfLast class [] = Unit {0}
IsClassOfLast class (last ∷ before) = class ≡ grapheme_cluster_break_number (grapheme_cluster_break last)

-- the text, given from its end, ends in Extended_Pictographic Extend* ZWJ
abbrev pub ends_in_emoji_joiner : List ℕ → Bool
ends_in_emoji_joiner [] = false
ends_in_emoji_joiner (last ∷ before) = is_zwj (grapheme_cluster_break last) && ends_in_pictograph before

-- the memory is true of the text before a place, given from its end
pub record Remembers (memory : Memory) (before : List ℕ) : Type 0 where
  pub class : IsClassOfLast memory.class before
  pub linker : memory.after_linker ≡ ends_in_linker (map indic_conjunct_break before)
  pub pictograph : memory.after_pictograph ≡ ends_in_pictograph before
  pub joiner : memory.after_joiner ≡ ends_in_emoji_joiner before
  pub flag : memory.half_flag ≡ ends_in_half_flag before

-- whether a text ends in Linker Extend*, once a code point of this value follows
abbrev pub is_linked_after : IndicConjunctBreak → Bool → Bool
is_linked_after Linker before = true
is_linked_after Extend before = before
is_linked_after _ before = false

-- a rule that looks back holds the next code point to a text with this memory
abbrev pub joins_by_memory : Memory → ℕ → Bool
joins_by_memory memory next =
    (memory.after_linker && is_consonant (indic_conjunct_break next))
    || (memory.after_joiner && is_extended_pictographic next)
    || (memory.half_flag && is_regional (grapheme_cluster_break next))

-- what the rules on two neighbors say, as a number: they hold them together, they part them, or nothing
abbrev pub rule_number : Option Bool → ℕ
rule_number (Some false) = 0
rule_number (Some true) = 1
rule_number None = 2
