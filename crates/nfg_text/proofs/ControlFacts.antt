-- Controls stand alone.
use Rattle.std.proofs.Common.{◌≡◌, ℕ, true, not, ◌||◌, ◌==◌, [], None, refl, ap, ◌∙◌, eqb-true}
use Rattle.std.proofs.lemmas.Bool.{and_from}
use Rattle.ucd_breaks.specs.GraphemeClusterBreak.{grapheme_cluster_break}
use Rattle.ucd_breaks.proofs.GraphemeClusterBreakLemmas.{grapheme_cluster_break_stepped}
use Rattle.ucd_normal.specs.CanonicalCombiningClass.{canonical_combining_class}
use Rattle.ucd_normal.specs.Composition.{paired_with}
use Rattle.ucd_normal.specs.Compositions.{compositions}
use Rattle.ucd_normal.specs.Decomposition.{decomposition, if_canonical}
use Rattle.ucd_normal.specs.QuickCheck.{quick_check}
use Rattle.ucd_normal.specs.declared.forms.Form.TheVariants.{Nfd, Nfc}
use Rattle.ucd_normal.proofs.CanonicalCombiningClassLemmas.{canonical_combining_class_stepped}
use Rattle.ucd_normal.proofs.CompositionLemmas.{is_empty, composite-paired_with}
use Rattle.ucd_normal.proofs.CompositionsLemmas.{compositions_stepped}
use Rattle.ucd_normal.proofs.DecompositionLemmas.{decomposition_stepped}
use Rattle.ucd_normal.proofs.QuickCheckLemmas.{quick_check_stepped}
use Rattle.ucd_table.proofs.Computing.{tables}
use Rattle.ucd_table.proofs.Stepped.{zip_stepped}
use Rattle.unicode_normalization.proofs.DecomposeLemmas.{decompose-final, is_empty-true, primary_composite-table}
use Rattle.unicode_normalization.proofs.FormsLemmas.{is_yes-true}
use Rattle.unicode_normalization.proofs.TableFacts.{is_yes, is_final}
use Rattle.nfg_text.specs.Facts.{is_control, ControlsStandAlone}
use Rattle.nfg_text.proofs.Everywhere.{at_all, always, implied}
use Rattle.nfg_text.proofs.HangulFacts.{control_is_no_syllable, control_composes_no_hangul}

has_class_zero : (c : ℕ) → (not (is_control (grapheme_cluster_break c)) || (canonical_combining_class c == 0)) ≡ true
unfolding tables always canonical_combining_class_stepped grapheme_cluster_break_stepped
has_class_zero =
    at_all _ (zip_stepped (λ w n. not (is_control w) || (n == 0)) grapheme_cluster_break canonical_combining_class grapheme_cluster_break_stepped canonical_combining_class_stepped) refl

has_no_mapping : (c : ℕ) → (not (is_control (grapheme_cluster_break c)) || is_empty (if_canonical (decomposition c))) ≡ true
unfolding tables always decomposition_stepped grapheme_cluster_break_stepped
has_no_mapping =
    at_all _ (zip_stepped (λ w e. not (is_control w) || is_empty (if_canonical e)) grapheme_cluster_break decomposition grapheme_cluster_break_stepped decomposition_stepped) refl

starts_no_pair : (c : ℕ) → (not (is_control (grapheme_cluster_break c)) || is_empty (compositions c)) ≡ true
unfolding tables always compositions_stepped grapheme_cluster_break_stepped
starts_no_pair =
    at_all _ (zip_stepped (λ w e. not (is_control w) || is_empty e) grapheme_cluster_break compositions grapheme_cluster_break_stepped compositions_stepped) refl

is_answered_yes : (c : ℕ) → (not (is_control (grapheme_cluster_break c)) || is_yes (quick_check Nfc c)) ≡ true
unfolding tables always quick_check_stepped grapheme_cluster_break_stepped
is_answered_yes =
    at_all _ (zip_stepped (λ w v. not (is_control w) || is_yes v) grapheme_cluster_break (quick_check Nfc) grapheme_cluster_break_stepped (quick_check_stepped Nfc)) refl

pub control_is_final : (c : ℕ) → is_control (grapheme_cluster_break c) ≡ true → is_final Nfc c ≡ true
control_is_final c control = and_from _ _ (implied _ _ (has_no_mapping c) control) (ap not (control_is_no_syllable c control))

paired_with-nil : (b : ℕ) → paired_with b [] ≡ None
unfolding paired_with
paired_with-nil b = refl

pub controls_stand_alone : ControlsStandAlone
controls_stand_alone c control =
    let pairs = is_empty-true _ (implied _ _ (starts_no_pair c) control) in
    record {
      starter = eqb-true (canonical_combining_class c) 0 (implied _ _ (has_class_zero c) control);
      whole = decompose-final Nfd c (and_from _ _ (implied _ _ (has_no_mapping c) control) (ap not (control_is_no_syllable c control)));
      first_of_none = λ next.
          primary_composite-table c next (control_composes_no_hangul c next control) ∙ composite-paired_with c next ∙ ap (paired_with next) pairs ∙ paired_with-nil next;
      passes = is_yes-true _ (implied _ _ (is_answered_yes c) control);
    }
