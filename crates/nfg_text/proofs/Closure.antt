-- At a cluster end of a text in NFC both parts are in NFC, and the NFD is theirs joined.
use Rattle.std.proofs.Common.{◌≡◌, ◌≢◌, ℕ, ◌≤◌, Bool, true, false, ◌==◌, List, [], ◌∷◌, ◌++◌, length, unwrap_or, if◌then◌else◌, refl, sym, ap, subst, ◌∙◌, arith, inl, inr, append-nil, append_assoc, eqb-true}
use Rattle.std.proofs.lemmas.Bool.{cases_Bool}
use Rattle.std.proofs.lemmas.Grind.{flat_map-append}
use Rattle.ucd_breaks.specs.GraphemeClusterBreak.{grapheme_cluster_break as class}
use Rattle.ucd_breaks.specs.declared.GraphemeClusterBreak.{GraphemeClusterBreak}
use Rattle.ucd_breaks.specs.declared.GraphemeClusterBreak.TheVariants.{Control, Cr, Lf, Extend, SpacingMark, Zwj}
use Rattle.ucd_normal.specs.CanonicalCombiningClass.{canonical_combining_class as ccc}
use Rattle.unicode_normalization.specs.Decompose.{decompose}
use Rattle.unicode_normalization.specs.Forms.{Form, Nfd, Nfc, nfc, nfd, decomposed, normalize, IsInForm}
use Rattle.unicode_normalization.specs.Order.{is_ordered, canonical_order}
use Rattle.unicode_normalization.specs.QuickCheck.{QuickCheck, Yes, No, Maybe, quick_check, worse, worst, quick_check_text}
use Rattle.unicode_normalization.proofs.FormsLemmas.{normalize-boundary, normalize-nil, quick_check_text-No}
use Rattle.unicode_normalization.proofs.KeptLemmas.{nfc-alone}
use Rattle.unicode_normalization.proofs.OrderLemmas.{canonical_order-nil, canonical_order-at_starter}
use Rattle.unicode_segmentation.specs.Grapheme.{break_by_pair, is_grapheme_break}
use Rattle.nfg_text.specs.Facts.{is_control, is_mark}
use Rattle.nfg_text.specs.Laws.{NfcAtBreak, NfdOfParts}
use Rattle.nfg_text.proofs.AtBreak.{break_from_end}
use Rattle.nfg_text.proofs.BreakFacts.{marks_extend}
use Rattle.nfg_text.proofs.Composing.{parts, one_part, same_parts, closed_at_starter, nfd-parted, nfd-from}
use Rattle.nfg_text.proofs.ControlFacts.{controls_stand_alone, control_is_final}
use Rattle.nfg_text.proofs.Cuts.{onto}
use Rattle.nfg_text.proofs.StarterFacts.{starters_start_with_starters}

-- ---- after a control

closed_at_control : (front : List ℕ) (k : ℕ) (y : List ℕ) → is_control (class k) ≡ true → nfc ((front ++ k ∷ []) ++ y) ≡ (front ++ k ∷ []) ++ y → (nfc (front ++ k ∷ []) ≡ front ++ k ∷ []) × (nfc y ≡ y)
closed_at_control front k y control same =
    let alone = controls_stand_alone k control in
    let low : ccc k ≤ 0 = let e = alone.starter in omega arith in
    let itself = λ (r : List ℕ). nfc-alone k r low (control_is_final k control) alone.first_of_none in
    let bound = λ (r : List ℕ). normalize-boundary Nfc front k r alone.starter alone.passes ∙ ap (λ l. nfc front ++ l) (itself r) in
    let push : nfc (front ++ k ∷ []) ≡ nfc front ++ k ∷ [] = bound [] ∙ ap (λ l. nfc front ++ k ∷ l) (normalize-nil Nfc) in
    same_parts (front ++ k ∷ []) y
    (ap (λ l. l ++ nfc y) push ∙ append_assoc (nfc front) (k ∷ []) (nfc y) ∙ sym (bound y) ∙ ap nfc (sym (append_assoc front (k ∷ []) y)) ∙ same)

-- ---- the code points of a text in NFC

worse-No_right : (v : QuickCheck) → worse v No ≡ No
worse-No_right Yes = refl
worse-No_right No = refl
worse-No_right Maybe = refl

worst-No_within : (form : Form) (xs : List ℕ) (c : ℕ) (ys : List ℕ) → quick_check form c ≡ No → worst form (xs ++ c ∷ ys) ≡ No
unfolding worst
worst-No_within form [] c ys h = ap (λ v. worse v (worst form ys)) h
worst-No_within form (x ∷ xs) c ys h = ap (worse (quick_check form x)) (worst-No_within form xs c ys h) ∙ worse-No_right (quick_check form x)

possible_in_form : (form : Form) (xs : List ℕ) (c : ℕ) (ys : List ℕ) → IsInForm form (xs ++ c ∷ ys) → quick_check form c ≢ No
unfolding quick_check_text
possible_in_form form xs c ys same h = quick_check_text-No form (xs ++ c ∷ ys) (either (is_ordered (xs ++ c ∷ ys))) same
  where
    either : (b : Bool) → (if b then worst form (xs ++ c ∷ ys) else No) ≡ No
    either true = worst-No_within form xs c ys h
    either false = refl

-- ---- at a boundary

control_before_mark : (l v : GraphemeClusterBreak) (rest : Bool) → unwrap_or (break_by_pair true l v) rest ≡ true → is_mark v ≡ true → is_control l ≡ true
control_before_mark Control v rest h e = refl
control_before_mark Cr v rest h e = refl
control_before_mark Lf v rest h e = refl
control_before_mark _ Extend rest h e = cc
control_before_mark _ Zwj rest h e = cc
control_before_mark _ SpacingMark rest h e = cc
control_before_mark _ _ rest h e = cc

last_is_control : (k : ℕ) (before : List ℕ) (c : ℕ) (ys : List ℕ) → is_grapheme_break true (k ∷ before) (c ∷ ys) ≡ true → is_mark (class c) ≡ true → is_control (class k) ≡ true
unfolding is_grapheme_break
last_is_control k before c ys broken mark = control_before_mark (class k) (class c) _ broken mark

-- the last code point of a text, which `onto` puts first
last_of : (x : ℕ) (xs before : List ℕ) → (front : List ℕ) × (k : ℕ) × (back : List ℕ) × (x ∷ xs ≡ front ++ k ∷ []) × (onto xs (x ∷ before) ≡ k ∷ back)
last_of x [] before = ([], x, before, refl, refl)
last_of x (y ∷ xs) before = let l = last_of y xs (x ∷ before) in (x ∷ l.0, l.1, l.2, ap (λ t. x ∷ t) l.3, l.4)

pub first_part : (c : ℕ) → (s : ℕ) × (rest : List ℕ) × (decompose Nfd c ≡ s ∷ rest)
first_part c = found (decompose Nfd c) (one_part c)
  where
    found : (l : List ℕ) → 1 ≤ length l → (s : ℕ) × (rest : List ℕ) × (l ≡ s ∷ rest)
    found [] h = absurd (omega arith)
    found (s ∷ rest) h = (s, rest, refl)

at_break : (x : ℕ) (xs : List ℕ) (c : ℕ) (ys : List ℕ) → is_grapheme_break true (onto xs (x ∷ [])) (c ∷ ys) ≡ true → nfc ((x ∷ xs) ++ c ∷ ys) ≡ (x ∷ xs) ++ c ∷ ys → (nfc (x ∷ xs) ≡ x ∷ xs) × (nfc (c ∷ ys) ≡ c ∷ ys)
at_break x xs c ys broken same =
    elim (cases_Bool (ccc c == 0)) [
      | inl zero_class ↦
          let head = first_part c in
          let begins = starters_start_with_starters c head.0 (eqb-true (ccc c) 0 zero_class) (possible_in_form Nfc (x ∷ xs) c ys same) (head.1, head.2) in
          closed_at_starter (x ∷ xs) c ys head.0 head.1 head.2 (omega arith) same
      | inr mark ↦
          let last = last_of x xs [] in
          let control = last_is_control last.1 last.2 c ys (ap (λ b. is_grapheme_break true b (c ∷ ys)) (sym last.4) ∙ broken) (marks_extend c mark) in
          subst (λ t. nfc (t ++ c ∷ ys) ≡ t ++ c ∷ ys → (nfc t ≡ t) × (nfc (c ∷ ys) ≡ c ∷ ys)) (sym last.3) (closed_at_control last.0 last.1 (c ∷ ys) control) same
    ]

pub nfc_at_break : NfcAtBreak
nfc_at_break [] y ends same = (normalize-nil Nfc, same)
nfc_at_break (x ∷ xs) [] ends same = (ap nfc (sym (append-nil (x ∷ xs))) ∙ same ∙ append-nil (x ∷ xs), normalize-nil Nfc)
nfc_at_break (x ∷ xs) (c ∷ ys) ends same =
    elim ends [
      | inl none ↦ absurd (omega arith)
      | inr at ↦ at_break x xs c ys (break_from_end x xs (c ∷ ys) at) same
    ]

-- ---- the NFD at a boundary

nfd_at_control : (front : List ℕ) (k : ℕ) (y : List ℕ) → is_control (class k) ≡ true → nfd ((front ++ k ∷ []) ++ y) ≡ nfd (front ++ k ∷ []) ++ nfd y
unfolding normalize decomposed
nfd_at_control front k y control =
    let alone = controls_stand_alone k control in
    let low : ccc k ≤ 0 = let e = alone.starter in omega arith in
    let from = λ (r : List ℕ). ap canonical_order (flat_map-append (decompose Nfd) front (k ∷ r)) ∙ ap (λ l. canonical_order (parts front ++ (l ++ parts r))) alone.whole ∙ canonical_order-at_starter (parts front) k (parts r) low in
    ap nfd (append_assoc front (k ∷ []) y) ∙ from y ∙ sym (append_assoc (nfd front) (k ∷ []) (nfd y))
    ∙ ap (λ l. l ++ nfd y) (sym (from [] ∙ ap (λ l. nfd front ++ k ∷ l) canonical_order-nil))

nfd_at_break : (x : ℕ) (xs : List ℕ) (c : ℕ) (ys : List ℕ) → is_grapheme_break true (onto xs (x ∷ [])) (c ∷ ys) ≡ true → nfc ((x ∷ xs) ++ c ∷ ys) ≡ (x ∷ xs) ++ c ∷ ys → nfd ((x ∷ xs) ++ c ∷ ys) ≡ nfd (x ∷ xs) ++ nfd (c ∷ ys)
nfd_at_break x xs c ys broken same =
    elim (cases_Bool (ccc c == 0)) [
      | inl zero_class ↦
          let head = first_part c in
          let begins = starters_start_with_starters c head.0 (eqb-true (ccc c) 0 zero_class) (possible_in_form Nfc (x ∷ xs) c ys same) (head.1, head.2) in
          nfd-parted (x ∷ xs) c ys head.0 head.1 head.2 (omega arith) ∙ ap (λ l. nfd (x ∷ xs) ++ l) (sym (nfd-from (x ∷ xs) c ys head.0 head.1 head.2 (omega arith)))
      | inr mark ↦
          let last = last_of x xs [] in
          let control = last_is_control last.1 last.2 c ys (ap (λ b. is_grapheme_break true b (c ∷ ys)) (sym last.4) ∙ broken) (marks_extend c mark) in
          subst (λ t. nfd (t ++ c ∷ ys) ≡ nfd t ++ nfd (c ∷ ys)) (sym last.3) (nfd_at_control last.0 last.1 (c ∷ ys) control)
    ]

pub nfd_of_parts : NfdOfParts
nfd_of_parts [] y ends same = ap (λ l. l ++ nfd y) (sym (normalize-nil Nfd))
nfd_of_parts (x ∷ xs) [] ends same = ap nfd (append-nil (x ∷ xs)) ∙ sym (append-nil (nfd (x ∷ xs))) ∙ ap (λ l. nfd (x ∷ xs) ++ l) (sym (normalize-nil Nfd))
nfd_of_parts (x ∷ xs) (c ∷ ys) ends same =
    elim ends [
      | inl none ↦ absurd (omega arith)
      | inr at ↦ nfd_at_break x xs c ys (break_from_end x xs (c ∷ ys) at) same
    ]
