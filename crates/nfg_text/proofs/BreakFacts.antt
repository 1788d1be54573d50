-- The facts on break classes, computed over the steps of the tables.
use Rattle.std.proofs.Common.{not, ◌||◌, ◌==◌, refl}
use Rattle.ucd_breaks.specs.GraphemeClusterBreak.{grapheme_cluster_break}
use Rattle.ucd_breaks.proofs.GraphemeClusterBreakLemmas.{grapheme_cluster_break_stepped}
use Rattle.ucd_derived.specs.IndicConjunctBreak.{indic_conjunct_break}
use Rattle.ucd_derived.proofs.IndicConjunctBreakLemmas.{indic_conjunct_break_stepped}
use Rattle.ucd_emoji.specs.Binary.{is_extended_pictographic}
use Rattle.ucd_emoji.proofs.BinaryLemmas.{is_extended_pictographic_stepped}
use Rattle.ucd_normal.specs.CanonicalCombiningClass.{canonical_combining_class}
use Rattle.ucd_normal.proofs.CanonicalCombiningClassLemmas.{canonical_combining_class_stepped}
use Rattle.ucd_table.proofs.Computing.{tables}
use Rattle.ucd_table.proofs.Stepped.{zip_stepped}
use Rattle.unicode_segmentation.specs.Grapheme.{is_consonant}
use Rattle.nfg_text.specs.Facts.{is_extender, is_mark, is_control, is_conjunct_extender, is_linker, ConjunctExtendersExtend, LinkersExtend, LinkersAreNoControls, PictographsAreNoControls, ConsonantsAreNoControls, MarksExtend}
use Rattle.nfg_text.proofs.Everywhere.{at_all, always, implied, excluded, otherwise}

pub conjunct_extenders_extend : ConjunctExtendersExtend
unfolding tables always indic_conjunct_break_stepped grapheme_cluster_break_stepped
conjunct_extenders_extend c =
    implied _ _
    (at_all _ (zip_stepped (λ v w. not (is_conjunct_extender v) || is_extender w) indic_conjunct_break grapheme_cluster_break indic_conjunct_break_stepped grapheme_cluster_break_stepped) refl c)

pub linkers_are_no_controls : LinkersAreNoControls
unfolding tables always indic_conjunct_break_stepped grapheme_cluster_break_stepped
linkers_are_no_controls c =
    excluded _ _
    (at_all _ (zip_stepped (λ v w. not (is_linker v) || not (is_control w)) indic_conjunct_break grapheme_cluster_break indic_conjunct_break_stepped grapheme_cluster_break_stepped) refl c)

-- U+1CF5 is a linker of the break class Other
pub not_all_linkers_extend : ¬ LinkersExtend
unfolding tables indic_conjunct_break_stepped grapheme_cluster_break_stepped
not_all_linkers_extend all = let clash = all 0x1CF5 refl in cc

pub pictographs_are_no_controls : PictographsAreNoControls
unfolding tables always is_extended_pictographic_stepped grapheme_cluster_break_stepped
pictographs_are_no_controls c =
    excluded _ _
    (at_all _ (zip_stepped (λ v w. not v || not (is_control w)) is_extended_pictographic grapheme_cluster_break is_extended_pictographic_stepped grapheme_cluster_break_stepped) refl c)

pub consonants_are_no_controls : ConsonantsAreNoControls
unfolding tables always indic_conjunct_break_stepped grapheme_cluster_break_stepped
consonants_are_no_controls c =
    excluded _ _
    (at_all _ (zip_stepped (λ v w. not (is_consonant v) || not (is_control w)) indic_conjunct_break grapheme_cluster_break indic_conjunct_break_stepped grapheme_cluster_break_stepped) refl c)

pub marks_extend : MarksExtend
unfolding tables always canonical_combining_class_stepped grapheme_cluster_break_stepped
marks_extend c =
    otherwise _ _
    (at_all _ (zip_stepped (λ n w. (n == 0) || is_mark w) canonical_combining_class grapheme_cluster_break canonical_combining_class_stepped grapheme_cluster_break_stepped) refl c)
