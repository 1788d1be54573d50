-- Composing keeps what the break rules read of the first code point, two arrows aside.
use Rattle.std.proofs.Common.{◌≡◌, ◌⊎◌, ℕ, Bool, true, false, not, ◌&&◌, ◌||◌, ◌==◌, List, [], ◌∷◌, refl, sym, ap, subst, ◌∙◌, arith, inl, inr, eqb-true}
use Rattle.std.proofs.lemmas.Bool.{cases_Bool, and_parts, and_from}
use Rattle.std.specs.Bool.{beq}
use Rattle.ucd_breaks.specs.GraphemeClusterBreak.{grapheme_cluster_break, grapheme_cluster_break_number}
use Rattle.ucd_breaks.proofs.GraphemeClusterBreakLemmas.{grapheme_cluster_break_number_injective}
use Rattle.ucd_derived.specs.IndicConjunctBreak.{indic_conjunct_break, indic_conjunct_break_number}
use Rattle.ucd_derived.proofs.IndicConjunctBreakLemmas.{indic_conjunct_break_number_injective}
use Rattle.ucd_emoji.specs.Binary.{is_extended_pictographic}
use Rattle.ucd_normal.specs.Decomposition.{decomposition, or_itself}
use Rattle.ucd_normal.specs.declared.forms.Form.TheVariants.{Nfd}
use Rattle.ucd_normal.proofs.CompositionLemmas.{is_empty}
use Rattle.ucd_table.proofs.Facts.{same_from_beq}
use Rattle.unicode_normalization.specs.Decompose.{decompose}
use Rattle.unicode_normalization.specs.Hangul.{is_syllable}
use Rattle.unicode_normalization.proofs.Computing.{unicode_normalization}
use Rattle.unicode_normalization.proofs.DecomposeLemmas.{decompose-other, decompose-final, is_empty-full}
use Rattle.nfg_text.specs.Facts.{BeginsWith, KeepsBreaks, CompositesKeepBreaks}
use Rattle.nfg_text.proofs.Everywhere.{otherwise}
use Rattle.nfg_text.proofs.HangulFacts.{leading_bounds}
use Rattle.nfg_text.proofs.Reading.{Reading, rows, trees, expanded, is_whole, passes_mapped, at_mapped}

abbrev keeps : Reading → ℕ → List ℕ → Bool
keeps reading c [] = true
keeps reading c (first ∷ rest) =
    (grapheme_cluster_break_number (reading.break_class c) == grapheme_cluster_break_number (reading.break_class first))
    && ((indic_conjunct_break_number (reading.conjunct c) == indic_conjunct_break_number (reading.conjunct first))
    && ((c == 0x21AE) || beq (reading.is_pictograph c) (reading.is_pictograph first)))

abbrev composite_keeps : Reading → ℕ → Bool
composite_keeps reading c = reading.is_excluded c || keeps reading c (expanded reading c)

composites_keep : (c : ℕ) → is_whole (decomposition c) ≡ false → composite_keeps rows c ≡ true
unfolding trees passes_mapped
composites_keep = at_mapped composite_keeps refl

kept_by : (c first : ℕ) (rest parts : List ℕ) → is_empty parts ≡ false → or_itself c parts ≡ first ∷ rest → keeps rows c parts ≡ true → KeepsBreaks c first
kept_by c first rest [] some spelled test = cc
kept_by c first rest (x ∷ xs) some spelled test =
    let same : x ≡ first = cc in
    let outer = and_parts _ _ test in
    let inner = and_parts _ _ outer.1 in
    subst (KeepsBreaks c) same
    (record {
      class = grapheme_cluster_break_number_injective _ _ (eqb-true _ _ outer.0);
      conjunct = indic_conjunct_break_number_injective _ _ (eqb-true _ _ inner.0);
      pictograph = λ other. same_from_beq _ _ (otherwise _ _ inner.1 other);
    })

pub composites_keep_breaks : CompositesKeepBreaks
composites_keep_breaks composite first allowed other begins =
    elim (cases_Bool (is_whole (decomposition composite))) [
      | inl whole ↦
          let alone = sym (decompose-final Nfd composite (and_from _ _ whole (ap not other))) ∙ begins.1 in
          let same : composite ≡ first = cc in
          record { class = ap grapheme_cluster_break same; conjunct = ap indic_conjunct_break same; pictograph = λ _. ap is_extended_pictographic same }
      | inr some ↦
          kept_by composite first begins.0 (expanded rows composite) (is_empty-full Nfd composite ∙ some) (sym (decompose-other Nfd composite other) ∙ begins.1) (otherwise _ _ (composites_keep composite some) allowed)
    ]

-- ---- what begins with U+2194

abbrev is_struck : ℕ → List ℕ → Bool
is_struck c [] = true
is_struck c (first ∷ rest) = not (first == 0x2194) || (c == 0x21AE)

abbrev arrow_is_struck : Reading → ℕ → Bool
arrow_is_struck reading c = is_struck c (expanded reading c)

arrows_are_struck : (c : ℕ) → is_whole (decomposition c) ≡ false → arrow_is_struck rows c ≡ true
unfolding trees passes_mapped
arrows_are_struck = at_mapped arrow_is_struck refl

struck_by : (c : ℕ) (rest parts : List ℕ) → is_empty parts ≡ false → or_itself c parts ≡ 0x2194 ∷ rest → is_struck c parts ≡ true → c ≡ 0x21AE
struck_by c rest [] some spelled test = cc
struck_by c rest (x ∷ xs) some spelled test =
    let same : x ≡ 0x2194 = cc in
    eqb-true c 0x21AE (subst (λ y. (not (y == 0x2194) || (c == 0x21AE)) ≡ true) same test)

-- only the two arrows begin with U+2194
pub arrows_begin : (c : ℕ) → BeginsWith 0x2194 c → (c ≡ 0x2194) ⊎ (c ≡ 0x21AE)
arrows_begin c begins =
    elim (cases_Bool (is_syllable c)) [
      | inl syllable ↦ let bounds = leading_bounds c 0x2194 syllable begins in absurd (omega arith)
      | inr other ↦
          elim (cases_Bool (is_whole (decomposition c))) [
            | inl whole ↦ let alone = sym (decompose-final Nfd c (and_from _ _ whole (ap not other))) ∙ begins.1 in inl cc
            | inr some ↦ inr (struck_by c begins.0 (expanded rows c) (is_empty-full Nfd c ∙ some) (sym (decompose-other Nfd c other) ∙ begins.1) (arrows_are_struck c some))
          ]
    ]

pub decompose-struck_arrow : decompose Nfd 0x21AE ≡ 0x2194 ∷ 0x338 ∷ []
unfolding unicode_normalization
decompose-struck_arrow = refl
