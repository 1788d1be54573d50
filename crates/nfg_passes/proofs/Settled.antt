-- A text without an unsettled place is its own NFC.
use Rattle.std.proofs.Common.{◌≡◌, ℕ, suc, ◌+◌, ◌<◌, ◌≤◌, Bool, true, false, not, cond, ◌==◌, List, [], ◌∷◌, ◌++◌, length, map, refl, sym, ap, ◌∙◌, arith, inl, inr, eqb-true, lt-ltb}
use Rattle.std.proofs.lemmas.Bool.{cases_lt, and_parts, and_from}
use Rattle.std.proofs.lemmas.List.{length-map}
use Rattle.std.specs.List.{list_all, position_or_len}
use Rattle.ucd_normal.specs.CanonicalCombiningClass.{canonical_combining_class}
use Rattle.unicode_normalization.specs.Forms.{Nfc, nfc}
use Rattle.unicode_normalization.specs.Order.{is_reorderable, is_ordered}
use Rattle.unicode_normalization.specs.QuickCheck.{QuickCheck, Yes, quick_check}
use Rattle.unicode_normalization.proofs.FormsLemmas.{passes, normalize-passes}
use Rattle.unicode_normalization.proofs.OrderLemmas.{is_ordered-nil, is_ordered-one, is_ordered-cons, not_reorderable_rising, not_reorderable_starter}
use Rattle.nfg_text.specs.Graphemes.{is_yes, starts_safely}
use Rattle.nfg_text.proofs.Proved.{nfc_at_safe_start}
use Rattle.nfg_passes.specs.Ids.{id_number}
use Rattle.nfg_passes.specs.Unsettled.{is_unsettled, SettledTextsStay, SettledTextsStayBehind}
use Rattle.nfg_passes.proofs.IdFacts.{ids_tell, marks_rise}
use lib.Lanes.{zip2}

-- no place of the ids is unsettled, the first judged as after `before`
abbrev AreSettledAfter : ℕ → List ℕ → Type 0
AreSettledAfter before ids = position_or_len (λ unsettled. unsettled) (zip2 is_unsettled (before ∷ ids) ids) ≡ length ids

one_step : (unsettled : Bool) (m n : ℕ) → cond (not unsettled) (1 + m) 0 ≡ suc n → (unsettled ≡ false) × (m ≡ n)
one_step true m n all = absurd (omega (arith, all))
one_step false m n all = (refl, omega (arith, all))

record IsSettledAt (before id : ℕ) : Type 0 where
  sure : id < 71
  rising : (18 ≤ id) → before ≤ id

settled_at : (before id : ℕ) → is_unsettled before id ≡ false → IsSettledAt before id
settled_at before id settled = record { sure = grind arith; rising = λ mark. grind arith }

is_yes-true : (v : QuickCheck) → is_yes v ≡ true → v ≡ Yes
is_yes-true Yes h = refl
is_yes-true _ h = cc

-- a settled code point passes the quick check
passes_at : (c : ℕ) → id_number c < 71 → passes Nfc c ≡ true
passes_at c sure =
    let answer = is_yes-true (quick_check Nfc c) (sym (ids_tell c).yes ∙ lt-ltb (id_number c) 71 sure) in ap is_yes answer

class_zero : (c : ℕ) → id_number c < 18 → canonical_combining_class c ≡ 0
class_zero c low =
    let safe : starts_safely c ≡ true = sym (ids_tell c).safe ∙ lt-ltb (id_number c) 18 low in
    eqb-true _ _ (and_parts (canonical_combining_class c == 0) (is_yes (quick_check Nfc c)) safe).0

in_order : (a c : ℕ) → IsSettledAt (id_number a) (id_number c) → is_reorderable a c ≡ false
in_order a c settled =
    elim (cases_lt (id_number c) 18) [
      | inl safe ↦ not_reorderable_starter a c (omega (arith, class_zero c safe))
      | inr mark ↦
          elim (cases_lt (id_number a) 18) [
            | inl first ↦ not_reorderable_rising a c (omega (arith, class_zero a first))
            | inr both ↦
                let risen = marks_rise (id_number a) (id_number c) both (settled.rising mark) settled.sure in
                not_reorderable_rising a c (omega (arith, risen, (ids_tell a).combining_class, (ids_tell c).combining_class))
          ]
    ]

all_pass : (before : ℕ) (t : List ℕ) → AreSettledAfter before (map id_number t) → list_all (passes Nfc) t ≡ true
all_pass before [] all = refl
all_pass before (c ∷ t) all =
    let step = one_step (is_unsettled before (id_number c)) _ (length (map id_number t)) all in
    and_from _ _ (passes_at c (settled_at before (id_number c) step.0).sure) (all_pass (id_number c) t step.1)

all_ordered : (before : ℕ) (t : List ℕ) → AreSettledAfter before (map id_number t) → is_ordered t ≡ true
all_ordered before [] all = is_ordered-nil
all_ordered before (c ∷ []) all = is_ordered-one c
all_ordered before (c ∷ (d ∷ t)) all =
    let step = one_step (is_unsettled before (id_number c)) _ (length (map id_number (d ∷ t))) all in
    let next = one_step (is_unsettled (id_number c) (id_number d)) _ (length (map id_number t)) step.1 in
    is_ordered-cons c d t (in_order c d (settled_at (id_number c) (id_number d) next.0)) (all_ordered (id_number c) (d ∷ t) step.1)

pub settled_texts_stay : SettledTextsStay
settled_texts_stay t settled =
    let all = settled ∙ sym (length-map t id_number) in
    normalize-passes Nfc t (all_pass 0 t all) (all_ordered 0 t all)

pub settled_texts_stay_behind : SettledTextsStayBehind
settled_texts_stay_behind x c t safe settled =
    nfc_at_safe_start x c t safe ∙ ap (λ l. nfc x ++ l) (settled_texts_stay (c ∷ t) settled)
