-- What the decomposition of a starter begins with.
use Rattle.std.proofs.Common.{◌≡◌, ◌≢◌, ℕ, Bool, true, false, not, ◌||◌, ◌==◌, List, [], ◌∷◌, refl, sym, ap, subst, ◌∙◌, arith, inl, inr, eqb-true, eq-eqb}
use Rattle.std.proofs.lemmas.Bool.{cases_Bool, and_from}
use Rattle.ucd_normal.specs.CanonicalCombiningClass.{canonical_combining_class as ccc}
use Rattle.ucd_normal.specs.Decomposition.{decomposition, or_itself}
use Rattle.ucd_normal.specs.declared.forms.Form.TheVariants.{Nfd}
use Rattle.ucd_normal.proofs.CompositionLemmas.{is_empty}
use Rattle.unicode_normalization.specs.Hangul.{is_syllable}
use Rattle.unicode_normalization.specs.QuickCheck.{QuickCheck, Yes, No, Maybe}
use Rattle.unicode_normalization.proofs.DecomposeLemmas.{decompose-other, decompose-final, is_empty-full, primary_composite-some, is_syllable-IsLv, is_syllable-IsLvt}
use Rattle.unicode_normalization.proofs.TableFacts.{is_no, class_of_jamo}
use Rattle.nfg_text.specs.Facts.{BeginsWith, StartersStartWithStarters, CompositesStartWithStarters}
use Rattle.nfg_text.proofs.HangulFacts.{leading_bounds}
use Rattle.nfg_text.proofs.Reading.{Reading, rows, trees, expanded, is_whole, passes_mapped, at_mapped}

-- the first code point is a starter
abbrev begins_well : Reading → List ℕ → Bool
begins_well reading [] = true
begins_well reading (first ∷ rest) = reading.combining first == 0

abbrev starter_begins_well : Reading → ℕ → Bool
starter_begins_well reading c =
    (is_no (reading.nfc_answer c) || not (reading.combining c == 0)) || begins_well reading (expanded reading c)

starters_begin_well : (c : ℕ) → is_whole (decomposition c) ≡ false → starter_begins_well rows c ≡ true
unfolding trees passes_mapped
starters_begin_well = at_mapped starter_begins_well refl

abbrev composite_begins_well : Reading → ℕ → Bool
composite_begins_well reading c =
    (reading.is_excluded c || not (reading.combining c == 0)) || begins_well reading (expanded reading c)

composites_begin_well : (c : ℕ) → is_whole (decomposition c) ≡ false → composite_begins_well rows c ≡ true
unfolding trees passes_mapped
composites_begin_well = at_mapped composite_begins_well refl

-- ---- from the computation to the code point

first_class : (c first : ℕ) (rest parts : List ℕ) → is_empty parts ≡ false → or_itself c parts ≡ first ∷ rest → begins_well rows parts ≡ true → ccc first ≡ 0
first_class c first rest [] some spelled well = cc
first_class c first rest (x ∷ xs) some spelled well =
    let same : x ≡ first = cc in eqb-true (ccc first) 0 (subst (λ y. (ccc y == 0) ≡ true) same well)

-- a starter is a syllable, decomposes to itself, or has a mapping
by_kind : (c first : ℕ) → ccc c ≡ 0 → BeginsWith first c → (is_whole (decomposition c) ≡ false → begins_well rows (expanded rows c) ≡ true) → ccc first ≡ 0
by_kind c first starter begins mapped =
    elim (cases_Bool (is_syllable c)) [
      | inl syllable ↦
          let bounds = leading_bounds c first syllable begins in
          eqb-true (ccc first) 0 (class_of_jamo first bounds.0 (omega arith))
      | inr other ↦
          elim (cases_Bool (is_whole (decomposition c))) [
            | inl whole ↦
                let alone = sym (decompose-final Nfd c (and_from _ _ whole (ap not other))) ∙ begins.1 in
                let same : c ≡ first = cc in
                sym (ap ccc same) ∙ starter
            | inr some ↦ first_class c first begins.0 (expanded rows c) (is_empty-full Nfd c ∙ some) (sym (decompose-other Nfd c other) ∙ begins.1) (mapped some)
          ]
    ]

last_of_three : (a b x : Bool) → ((a || not b) || x) ≡ true → a ≡ false → b ≡ true → x ≡ true
last_of_three false true x test first second = test
last_of_three true b x test first second = cc
last_of_three false false x test first second = cc

no_answer : (v : QuickCheck) → v ≢ No → is_no v ≡ false
no_answer No other = absurd (other refl)
no_answer Yes other = refl
no_answer Maybe other = refl

pub starters_start_with_starters : StartersStartWithStarters
starters_start_with_starters c first starter possible begins =
    by_kind c first starter begins (λ some. last_of_three _ _ _ (starters_begin_well c some) (no_answer _ possible) (eq-eqb (ccc c) 0 starter))

pub composites_start_with_starters : CompositesStartWithStarters
composites_start_with_starters a b composite first composed starter begins =
    elim (primary_composite-some a b composite composed) [
      | inl (inl lv) ↦ of_syllable (is_syllable-IsLv a b composite lv)
      | inl (inr lvt) ↦ of_syllable (is_syllable-IsLvt a b composite lvt)
      | inr made ↦ by_kind composite first starter begins (λ some. last_of_three _ _ _ (composites_begin_well composite some) made.allowed (eq-eqb (ccc composite) 0 starter))
    ]
  where
    of_syllable : is_syllable composite ≡ true → ccc first ≡ 0
    of_syllable syllable =
        let bounds = leading_bounds composite first syllable begins in eqb-true (ccc first) 0 (class_of_jamo first bounds.0 (omega arith))
