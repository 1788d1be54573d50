-- Normalization keeps to scalar values.
use Rattle.std.proofs.Common.{◌≡◌, ℕ, ◌+◌, ◌-◌, ◌/◌, ◌%◌, ◌==◌, eqb-true, Bool, true, false, not, ◌&&◌, List, [], ◌∷◌, ◌++◌, length, flat_map, Some, refl, sym, ap, subst, ◌∙◌, arith, inl, inr, length-append}
use Rattle.std.specs.List.{list_all}
use Rattle.std.specs.Str.{all_scalars}
use Rattle.std.proofs.lemmas.Bool.{cases_Bool, cases_lt, and_parts, and_from, eqb-false}
use Rattle.ucd_normal.specs.Decomposition.{decomposition, or_itself}
use Rattle.ucd_normal.specs.declared.forms.Form.TheVariants.{Nfd}
use Rattle.unicode_normalization.specs.Compose.{primary_composite, compose_after, compose}
use Rattle.unicode_normalization.specs.Decompose.{decompose}
use Rattle.unicode_normalization.specs.Forms.{nfd, decomposed, normalize}
use Rattle.unicode_normalization.specs.Hangul.{is_syllable}
use Rattle.unicode_normalization.specs.Order.{canonical_order}
use Rattle.unicode_normalization.proofs.ComposeLemmas.{compose_after-cases, compose_after-nil, compose-nil, compose-starter, compose-mark}
use Rattle.unicode_normalization.proofs.DecomposeLemmas.{decompose-other, decompose-final, decompose-syllable, decompose-primary_composite}
use Rattle.unicode_normalization.proofs.FormsLemmas.{nfc-by_nfd}
use Rattle.unicode_normalization.proofs.HangulLemmas.{is_syllable-true, decompose_hangul-two, decompose_hangul-three}
use Rattle.unicode_normalization.proofs.OrderLemmas.{list_all-canonical_order}
use Rattle.ucd_normal.specs.CanonicalCombiningClass.{canonical_combining_class}
use lib.Utf8.{scalar, low_scalar}
use Rattle.nfg_text.specs.Laws.{NfcOfText, PartsOfText}
use Rattle.nfg_text.proofs.Composing.{one_part}
use Rattle.nfg_text.proofs.Reading.{Reading, rows, trees, expanded, is_whole, passes_mapped, at_mapped}
use Rattle.nfg_text.proofs.Scalars.{scalars-append}

scalars-parts : (x y : List ℕ) → all_scalars (x ++ y) ≡ true → (all_scalars x ≡ true) × (all_scalars y ≡ true)
scalars-parts [] y all = (refl, all)
scalars-parts (c ∷ x) y all =
    let parts = and_parts (scalar c) (all_scalars (x ++ y)) all in
    let rest = scalars-parts x y parts.1 in
    (and_from _ _ parts.0 rest.0, rest.1)

pub parts_of_text : PartsOfText
parts_of_text x y = (scalars-parts x y, λ both. scalars-append x y both.0 both.1)

-- ---- decomposing

parts_are_scalars : Reading → ℕ → Bool
parts_are_scalars reading c = scalar c && all_scalars (expanded reading c)

mapped_to_scalars : (c : ℕ) → is_whole (decomposition c) ≡ false → parts_are_scalars rows c ≡ true
unfolding trees passes_mapped parts_are_scalars
mapped_to_scalars = at_mapped parts_are_scalars refl

or_itself-scalars : (c : ℕ) (parts : List ℕ) → scalar c ≡ true → all_scalars parts ≡ true → all_scalars (or_itself c parts) ≡ true
or_itself-scalars c [] one all = and_from _ _ one refl
or_itself-scalars c (x ∷ xs) one all = all

syllable-scalars : (c : ℕ) → is_syllable c ≡ true → all_scalars (decompose Nfd c) ≡ true
syllable-scalars c syllable =
    let bounds = is_syllable-true c syllable in
    let leading = low_scalar (0x1100 + (c - 0xAC00) / 588) (omega arith) in
    let vowel = low_scalar (0x1161 + (c - 0xAC00) % 588 / 28) (omega arith) in
    let trailing = low_scalar (0x11A7 + (c - 0xAC00) % 28) (omega arith) in
    let spelled = decompose-syllable Nfd c syllable in
    elim (cases_Bool ((c - 0xAC00) % 28 == 0)) [
      | inl two ↦
          subst (λ l. all_scalars l ≡ true) (sym (spelled ∙ decompose_hangul-two c (eqb-true _ _ two))) (and_from _ _ leading (and_from _ _ vowel refl))
      | inr three ↦
          subst (λ l. all_scalars l ≡ true) (sym (spelled ∙ decompose_hangul-three c (eqb-false _ _ three))) (and_from _ _ leading (and_from _ _ vowel (and_from _ _ trailing refl)))
    ]

decompose-scalars : (c : ℕ) → scalar c ≡ true → all_scalars (decompose Nfd c) ≡ true
unfolding parts_are_scalars
decompose-scalars c one =
    elim (cases_Bool (is_syllable c)) [
      | inl syllable ↦ syllable-scalars c syllable
      | inr other ↦
          elim (cases_Bool (is_whole (decomposition c))) [
            | inl whole ↦ subst (λ l. all_scalars l ≡ true) (sym (decompose-final Nfd c (and_from _ _ whole (ap not other)))) (and_from _ _ one refl)
            | inr some ↦
                subst (λ l. all_scalars l ≡ true) (sym (decompose-other Nfd c other))
                (or_itself-scalars c (expanded rows c) one (and_parts (scalar c) (all_scalars (expanded rows c)) (mapped_to_scalars c some)).1)
          ]
    ]

parts-scalars : (t : List ℕ) → all_scalars t ≡ true → all_scalars (flat_map (decompose Nfd) t) ≡ true
parts-scalars [] all = refl
parts-scalars (c ∷ t) all =
    let parts = and_parts (scalar c) (all_scalars t) all in
    scalars-append (decompose Nfd c) (flat_map (decompose Nfd) t) (decompose-scalars c parts.0) (parts-scalars t parts.1)

as_list_all : (t : List ℕ) → all_scalars t ≡ list_all scalar t
as_list_all [] = refl
as_list_all (c ∷ t) = ap (λ b. scalar c && b) (as_list_all t)

nfd-scalars : (t : List ℕ) → all_scalars t ≡ true → all_scalars (nfd t) ≡ true
unfolding normalize decomposed
nfd-scalars t all =
    let parts = flat_map (decompose Nfd) t in
    as_list_all (canonical_order parts) ∙ list_all-canonical_order scalar parts (sym (as_list_all parts) ∙ parts-scalars t all)

-- ---- composing

-- a composite decomposes to two code points or more, so it is a syllable or has a mapping
composite-scalar : (a b composite : ℕ) → primary_composite a b ≡ Some composite → scalar composite ≡ true
unfolding parts_are_scalars
composite-scalar a b composite composed =
    elim (cases_Bool (is_syllable composite)) [
      | inl syllable ↦ let bounds = is_syllable-true composite syllable in low_scalar composite (omega arith)
      | inr other ↦
          elim (cases_Bool (is_whole (decomposition composite))) [
            | inl whole ↦
                let one : length (decompose Nfd composite) ≡ 1 = ap length (decompose-final Nfd composite (and_from _ _ whole (ap not other))) in
                let wide = ap length (decompose-primary_composite Nfd a b composite composed) ∙ length-append (decompose Nfd a) (decompose Nfd b) in
                let left = one_part a in
                let right = one_part b in
                absurd (omega arith)
            | inr some ↦ (and_parts (scalar composite) (all_scalars (expanded rows composite)) (mapped_to_scalars composite some)).0
          ]
    ]

compose_after-scalars : (s : ℕ) (marks cs : List ℕ) → scalar s ≡ true → all_scalars marks ≡ true → all_scalars cs ≡ true → all_scalars (compose_after s marks cs) ≡ true
compose_after-scalars s marks [] one behind all = ap all_scalars (compose_after-nil s marks) ∙ and_from _ _ one behind
compose_after-scalars s marks (c ∷ cs) one behind all =
    let parts = and_parts (scalar c) (all_scalars cs) all in
    compose_after-cases s marks c cs (λ l. all_scalars l ≡ true)
    (λ composite _ composed. compose_after-scalars composite marks cs (composite-scalar s c composite composed) behind parts.1)
    (λ _ _. and_from _ _ one (scalars-append marks (compose_after c [] cs) behind (compose_after-scalars c [] cs parts.0 refl parts.1)))
    (λ _ _. compose_after-scalars s (marks ++ c ∷ []) cs one (scalars-append marks (c ∷ []) behind (and_from _ _ parts.0 refl)) parts.1)

compose-scalars : (cs : List ℕ) → all_scalars cs ≡ true → all_scalars (compose cs) ≡ true
compose-scalars [] all = ap all_scalars compose-nil
compose-scalars (c ∷ cs) all =
    let parts = and_parts (scalar c) (all_scalars cs) all in
    elim (cases_lt 0 (canonical_combining_class c)) [
      | inl mark ↦ ap all_scalars (compose-mark c cs mark) ∙ and_from _ _ parts.0 (compose-scalars cs parts.1)
      | inr starter ↦ ap all_scalars (compose-starter c cs starter) ∙ compose_after-scalars c [] cs parts.0 refl parts.1
    ]

pub nfc_of_text : NfcOfText
nfc_of_text t text = ap all_scalars (nfc-by_nfd t) ∙ compose-scalars (nfd t) (nfd-scalars t text)
