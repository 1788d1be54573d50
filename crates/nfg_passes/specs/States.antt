-- States of the rules GB1 to GB999 of UAX #29: what a text leaves to be known before a place (this project's own).
use Rattle.std.specs.Prelude.{ℕ, Bool, List, [], ◌∷◌, map, if◌then◌else◌}
use Rattle.ucd_breaks.specs.GraphemeClusterBreak.{grapheme_cluster_break}
use Rattle.ucd_breaks.specs.declared.GraphemeClusterBreak.{GraphemeClusterBreak}
use Rattle.ucd_breaks.specs.declared.GraphemeClusterBreak.TheVariants.{Control, Cr, L, Lf, Lv, Lvt, Prepend, T, V}
use Rattle.ucd_derived.specs.IndicConjunctBreak.{indic_conjunct_break}
use Rattle.unicode_segmentation.specs.Grapheme.{ends_in_linker, ends_in_pictograph, ends_in_half_flag}
use Rattle.nfg_text.specs.Breaks.{ends_in_emoji_joiner}

-- what the rules that look back read of a text
pub record LookBack : Type 0 where
  pub linker : Bool
  pub pictograph : Bool
  pub joiner : Bool
  pub flag : Bool

-- that of a text, given from its end
abbrev pub look_back : List ℕ → LookBack
look_back before =
    record {
      linker = ends_in_linker (map indic_conjunct_break before);
      pictograph = ends_in_pictograph before;
      joiner = ends_in_emoji_joiner before;
      flag = ends_in_half_flag before;
    }

-- the state of a text whose last break class is none of GB3 to GB8 and GB9b
abbrev pub state_of_look_back : LookBack → ℕ
state_of_look_back seen =
    if seen.flag then 8
    else if seen.pictograph then (if seen.linker then 10 else 9)
    else if seen.joiner then (if seen.linker then 12 else 11)
    else if seen.linker then 3 else 2

-- the state after a text whose last code point has this break class
abbrev pub state_of : GraphemeClusterBreak → LookBack → ℕ
state_of Control seen = 0
state_of Lf seen = 0
state_of Cr seen = 1
state_of L seen = 4
state_of V seen = 5
state_of Lv seen = 5
state_of T seen = 6
state_of Lvt seen = 6
state_of Prepend seen = 7
state_of _ seen = state_of_look_back seen

-- the state after a text, given from its end: that of the empty text is that after a control
abbrev pub automaton_state : List ℕ → ℕ
automaton_state [] = 0
automaton_state (last ∷ before) = state_of (grapheme_cluster_break last) (look_back (last ∷ before))
