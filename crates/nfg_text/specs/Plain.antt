-- Plain code points: those that stand apart from each other (this project's own).
use Rattle.std.specs.Prelude.{◌≡◌, ℕ, Bool, true, false, not, ◌&&◌, nat_lt, List, [], ◌∷◌}
use Rattle.std.specs.List.{list_all}
use Rattle.ucd_breaks.specs.GraphemeClusterBreak.{grapheme_cluster_break}
use Rattle.ucd_breaks.specs.declared.GraphemeClusterBreak.{GraphemeClusterBreak}
use Rattle.ucd_breaks.specs.declared.GraphemeClusterBreak.TheVariants.{Other, Lv, Lvt}
use Rattle.ucd_derived.specs.IndicConjunctBreak.{indic_conjunct_break}
use Rattle.ucd_derived.specs.declared.IndicConjunctBreak.{IndicConjunctBreak}
use Rattle.ucd_derived.specs.declared.IndicConjunctBreak.TheVariants.{None}
use Rattle.ucd_emoji.specs.Binary.{is_extended_pictographic}
use Rattle.unicode_segmentation.specs.Grapheme.{is_consonant}
use Rattle.nfg_text.specs.Graphemes.{starts_safely}

-- the break class of a code point between two of which the rules on neighbors say nothing
abbrev pub stands_apart : GraphemeClusterBreak → Bool
stands_apart Other = true
stands_apart Lv = true
stands_apart Lvt = true
stands_apart _ = false

-- the code point takes no part in conjuncts
abbrev pub is_none : IndicConjunctBreak → Bool
is_none None = true
is_none _ = false

-- the rules hold no two code points of this kind together, whatever stands before them
unfoldable pub is_ordinary : ℕ → Bool
is_ordinary c =
    stands_apart (grapheme_cluster_break c)
    && (is_none (indic_conjunct_break c) && not (is_extended_pictographic c))

-- such a code point that starts safely
unfoldable pub is_plain : ℕ → Bool
is_plain c = nat_lt c 0x11_0000 && (starts_safely c && is_ordinary c)

-- what the laws of plain code points rest on
pub record StandsApart (c : ℕ) : Type 0 where
  pub safe : starts_safely c ≡ true
  pub class : stands_apart (grapheme_cluster_break c) ≡ true
  pub no_consonant : is_consonant (indic_conjunct_break c) ≡ false
  pub no_pictograph : is_extended_pictographic c ≡ false

-- every code point of the list is plain
abbrev pub AllPlain : List ℕ → Type 0
AllPlain t = list_all is_plain t ≡ true

-- each code point as a cluster of its own
abbrev pub singles : List ℕ → List (List ℕ)
singles [] = []
singles (c ∷ rest) = (c ∷ []) ∷ singles rest
