-- Plain code points stand apart.
use Rattle.std.proofs.Common.{◌≡◌, Bool, true, false, not, ◌&&◌, nat_lt, refl}
use Rattle.std.proofs.lemmas.Bool.{and_parts}
use Rattle.ucd_breaks.specs.GraphemeClusterBreak.{grapheme_cluster_break}
use Rattle.ucd_derived.specs.IndicConjunctBreak.{indic_conjunct_break}
use Rattle.ucd_derived.specs.declared.IndicConjunctBreak.{IndicConjunctBreak}
use Rattle.ucd_derived.specs.declared.IndicConjunctBreak.TheVariants.{None}
use Rattle.ucd_emoji.specs.Binary.{is_extended_pictographic}
use Rattle.unicode_normalization.proofs.Computing.{unicode_normalization}
use Rattle.unicode_segmentation.proofs.Computing.{unicode_segmentation}
use Rattle.unicode_segmentation.specs.Grapheme.{is_consonant}
use Rattle.nfg_text.specs.Facts.{PlainStandsApart}
use Rattle.nfg_text.specs.Graphemes.{starts_safely}
use Rattle.nfg_text.specs.Plain.{is_plain, is_none, is_ordinary, stands_apart}

none_is_no_consonant : (v : IndicConjunctBreak) → is_none v ≡ true → is_consonant v ≡ false
none_is_no_consonant None h = refl
none_is_no_consonant _ h = cc

not_true : (b : Bool) → not b ≡ true → b ≡ false
not_true true h = cc
not_true false h = refl

pub plain_stands_apart : PlainStandsApart
unfolding is_plain is_ordinary
plain_stands_apart c plain =
    let conjunct = is_none (indic_conjunct_break c) in
    let class = stands_apart (grapheme_cluster_break c) in
    let picture = is_extended_pictographic c in
    let whole = and_parts (nat_lt c 0x11_0000) (starts_safely c && (class && (conjunct && not picture))) plain in
    let parts = and_parts (starts_safely c) (class && (conjunct && not picture)) whole.1 in
    let rules = and_parts class (conjunct && not picture) parts.1 in
    let rest = and_parts conjunct (not picture) rules.1 in
    record {
      safe = parts.0;
      class = rules.0;
      no_consonant = none_is_no_consonant (indic_conjunct_break c) rest.0;
      no_pictograph = not_true picture rest.1;
    }

pub line_feed_is_not_plain : is_plain 0xA ≡ false
unfolding is_plain is_ordinary unicode_normalization unicode_segmentation
line_feed_is_not_plain = refl
