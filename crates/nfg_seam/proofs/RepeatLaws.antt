-- The graphemes of a text several times over, where each seam is repaired within one copy.
use Rattle.std.proofs.Common.{◌≡◌, ℕ, zero, suc, ◌+◌, ◌-◌, ◌<◌, ◌≤◌, ◌⊎◌, inl, inr, true, false, List, [], ◌∷◌, ◌++◌, length, take, drop, refl, sym, ap, ap₂, subst, ◌∙◌, arith, append_assoc, append-nil, take-append-drop}
use Rattle.std.proofs.lemmas.List.{drop-take, drop-drop, length-drop}
use Rattle.std.proofs.lemmas.List.Folds.{concat-append}
use Rattle.std.specs.List.{repeat, slice_range}
use Rattle.nfg_text.specs.Forms.{nfc}
use Rattle.nfg_text.specs.Graphemes.{clusters, graphemes_of, IsInNfg}
use Rattle.nfg_text.specs.Laws.{BreaksBefore}
use Rattle.nfg_text.specs.Operations.{repetition}
use Rattle.nfg_text.specs.Text.{text_of}
use Rattle.nfg_text.proofs.Proved.{graphemes_at_safe_start, broken_where_parted, parts_are_in_nfg, graphemes_spell_nfc, graphemes_are_in_nfg}
use Rattle.nfg_seam.specs.declared.seam.Seam.{Seam}
use Rattle.nfg_seam.specs.Seam.{IsSeam, BeginSafely, GoOnSafely}
use Rattle.nfg_seam.specs.Woven.{woven}

-- a list of graphemes spells a text in NFC
pub spells_nfc : (list : List (List ℕ)) → IsInNfg list → nfc (text_of list) ≡ text_of list
spells_nfc list is = sym (graphemes_spell_nfc (text_of list)) ∙ ap text_of (sym is)

-- whose clusters it is
are_clusters : (list : List (List ℕ)) → IsInNfg list → clusters (text_of list) ≡ list
are_clusters list is = ap clusters (sym (spells_nfc list is)) ∙ sym is

-- the graphemes of a text are those of its NFC
pub graphemes-nfc : (t : List ℕ) → graphemes_of (nfc t) ≡ graphemes_of t
graphemes-nfc t = ap graphemes_of (sym (graphemes_spell_nfc t)) ∙ sym (graphemes_are_in_nfg t)

-- graphemes stay before a safe start of their list, whatever follows
stay_before : (p s : List (List ℕ)) → IsInNfg (p ++ s) → BeginSafely s → (more : List ℕ)
    → graphemes_of (text_of p ++ (text_of s ++ more)) ≡ p ++ graphemes_of (text_of s ++ more)
stay_before p [] all never more = absurd never
stay_before p ([] ∷ s) all never more = absurd (false_true never)
  where
    false_true : false ≡ true → ⊥
    false_true e = cc
stay_before p ((c ∷ rest) ∷ s) all safe more =
    graphemes_at_safe_start (text_of p) c ((rest ++ text_of s) ++ more) safe
    (subst (λ t. BreaksBefore t c) (sym (spells_nfc p parts.0)) broken)
    ∙ ap (λ l. l ++ graphemes_of (c ∷ (rest ++ text_of s) ++ more)) (sym parts.0)
  where
    back : List (List ℕ)
    back = (c ∷ rest) ∷ s

    parts : IsInNfg p × IsInNfg back
    parts = parts_are_in_nfg p back all

    broken : BreaksBefore (text_of p) c
    broken = broken_where_parted (text_of p) c (rest ++ text_of s)
        (ap clusters (sym (concat-append p back)) ∙ are_clusters (p ++ back) all
        ∙ ap₂ ◌++◌ (sym (are_clusters p parts.0)) (sym (are_clusters back parts.1)))

-- and those of a text before graphemes that go on safely
pub stay_after : (x : List ℕ) (s : List (List ℕ)) → 0 < length s → GoOnSafely (nfc x) s → (more : List ℕ)
    → graphemes_of (x ++ (text_of s ++ more)) ≡ graphemes_of x ++ graphemes_of (text_of s ++ more)
stay_after x [] some safe more = absurd (omega (arith, some))
stay_after x ([] ∷ s) some never more = absurd never
stay_after x ((c ∷ rest) ∷ s) some safe more = graphemes_at_safe_start x c ((rest ++ text_of s) ++ more) safe.0 safe.1

-- one seam after another
seams_repeat : (q y s : List (List ℕ)) → IsInNfg (q ++ (y ++ s)) → BeginSafely s → 0 < length (y ++ s)
    → GoOnSafely (nfc (text_of s ++ text_of q)) (y ++ s) → (seams : ℕ)
    → graphemes_of (text_of s ++ repeat seams (text_of (q ++ (y ++ s)))) ≡ repeat seams (graphemes_of (text_of s ++ text_of q) ++ y) ++ s
seams_repeat q y s all safe some goes_on zero = ap graphemes_of (append-nil (text_of s)) ∙ sym (parts_are_in_nfg y s (parts_are_in_nfg q (y ++ s) all).1).1
seams_repeat q y s all safe some goes_on (suc seams) =
    ap graphemes_of (ap (λ t. text_of s ++ (t ++ copies)) (concat-append q (y ++ s)) ∙ ap (λ t. text_of s ++ t) (append_assoc (text_of q) (text_of (y ++ s)) copies)
    ∙ sym (append_assoc (text_of s) (text_of q) (text_of (y ++ s) ++ copies)))
    ∙ stay_after (text_of s ++ text_of q) (y ++ s) some goes_on copies
    ∙ ap (λ l. middle ++ l) (ap graphemes_of (ap (λ t. t ++ copies) (concat-append y s) ∙ append_assoc (text_of y) (text_of s) copies)
    ∙ stay_before y s (parts_are_in_nfg q (y ++ s) all).1 safe copies
    ∙ ap (λ l. y ++ l) (seams_repeat q y s all safe some goes_on seams))
    ∙ sym (append_assoc middle y (repeat seams (middle ++ y) ++ s))
    ∙ sym (append_assoc (middle ++ y) (repeat seams (middle ++ y)) s)
  where
    copies : List ℕ
    copies = repeat seams (text_of (q ++ (y ++ s)))

    middle : List (List ℕ)
    middle = graphemes_of (text_of s ++ text_of q)

-- the list of three parts, several times over
parts_repeat : (q y s : List (List ℕ)) → IsInNfg (q ++ (y ++ s)) → BeginSafely s → 0 < length (y ++ s)
    → GoOnSafely (nfc (text_of s ++ text_of q)) (y ++ s) → (seams : ℕ)
    → repetition (q ++ (y ++ s)) (suc seams) ≡ (q ++ y) ++ (repeat seams (graphemes_of (text_of s ++ text_of q) ++ y) ++ s)
parts_repeat q y s all safe some goes_on seams =
    ap graphemes_of (ap (λ t. t ++ copies) (ap text_of (sym (append_assoc q y s)) ∙ concat-append (q ++ y) s) ∙ append_assoc (text_of (q ++ y)) (text_of s) copies)
    ∙ stay_before (q ++ y) s (subst IsInNfg (sym (append_assoc q y s)) all) safe copies
    ∙ ap (λ l. (q ++ y) ++ l) (seams_repeat q y s all safe some goes_on seams)
  where
    copies : List ℕ
    copies = repeat seams (text_of (q ++ (y ++ s)))

-- a list is what stands before two places, between them and behind them
module _ {A : Type 0} where
  pub front_parts : (left right : ℕ) (list : List A) → right ≤ left → take right list ++ slice_range list right left ≡ take left list
  front_parts left right list ordered =
      let sum : left ≡ right + (left - right) = omega (arith, ordered) in
      ap (λ l. take right list ++ l) (sym (drop-take right (left - right) list) ∙ ap (λ k. drop right (take k list)) (sym sum))
      ∙ ap (λ l. l ++ drop right (take left list)) (sym (take-take list right left ordered))
      ∙ take-append-drop right (take left list)
    where
      take-take : (list : List A) (k n : ℕ) → k ≤ n → take k (take n list) ≡ take k list
      take-take list zero n within = refl
      take-take [] (suc k) zero within = refl
      take-take [] (suc k) (suc n) within = refl
      take-take (x ∷ list) (suc k) zero within = absurd (omega (arith, within))
      take-take (x ∷ list) (suc k) (suc n) within = ap (λ l. x ∷ l) (take-take list k n (omega (arith, within)))

  pub back_parts : (left right : ℕ) (list : List A) → right ≤ left → slice_range list right left ++ drop left list ≡ drop right list
  back_parts left right list ordered =
      let sum : right + (left - right) ≡ left = omega (arith, ordered) in
      ap (λ l. slice_range list right left ++ l) (ap (λ k. drop k list) (sym sum) ∙ sym (drop-drop (left - right) right list))
      ∙ take-append-drop (left - right) (drop right list)

  pub three_parts : (left right : ℕ) (list : List A) → right ≤ left → take right list ++ (slice_range list right left ++ drop left list) ≡ list
  three_parts left right list ordered = ap (λ l. take right list ++ l) (back_parts left right list ordered) ∙ take-append-drop right list

-- where the seam's ends lie so that each copy has a part that stays, a copy's end begins safely
begins : (list : List (List ℕ)) (seam : Seam) → IsSeam list list seam → seam.right ≤ seam.left → 0 < length list → BeginSafely (drop seam.left list)
begins list seam is ordered some = by is.left
  where
    first : (cs : List (List ℕ)) → 0 < length cs → GoOnSafely seam.text cs → BeginSafely cs
    first [] some goes_on = absurd (omega (arith, some))
    first ([] ∷ cs) some never = absurd never
    first ((c ∷ rest) ∷ cs) some goes_on = goes_on.0

    by : (seam.left ≡ 0) ⊎ BeginSafely (drop seam.left list) → BeginSafely (drop seam.left list)
    by (inl none) =
        let right_none : seam.right ≡ 0 = omega (arith, none, ordered) in
        subst (λ k. BeginSafely (drop k list)) (sym none) (first list some (subst (λ k. GoOnSafely seam.text (drop k list)) right_none is.right))
    by (inr safe) = safe

some_begin : (cs : List (List ℕ)) → BeginSafely cs → 0 < length cs
some_begin [] never = absurd never
some_begin (c ∷ cs) safe = omega arith

-- the graphemes of a text several times over, by the seam of the text with itself
pub repetition_by_seam : (list : List (List ℕ)) (seam : Seam) → IsInNfg list → IsSeam list list seam → seam.right ≤ seam.left → 0 < length list → (seams : ℕ)
    → repetition list (suc seams) ≡ woven list seam.left seam.right (graphemes_of seam.text) seams
repetition_by_seam list seam all is ordered some seams =
    ap (λ l. repetition l (suc seams)) (sym whole)
    ∙ parts_repeat q y s (subst IsInNfg (sym whole) all) (begins list seam is ordered some)
    (subst (λ l. 0 < length l) (sym back) behind)
    (subst (λ l. GoOnSafely (nfc (text_of s ++ text_of q)) l) (sym back) (subst (λ t. GoOnSafely t (drop seam.right list)) is.text is.right))
    seams
    ∙ ap₂ (λ front middle. front ++ (repeat seams (middle ++ y) ++ s)) (front_parts seam.left seam.right list ordered)
    (sym (graphemes-nfc (text_of s ++ text_of q)) ∙ ap graphemes_of (sym is.text))
  where
    q : List (List ℕ)
    q = take seam.right list

    y : List (List ℕ)
    y = slice_range list seam.right seam.left

    s : List (List ℕ)
    s = drop seam.left list

    whole : q ++ (y ++ s) ≡ list
    whole = three_parts seam.left seam.right list ordered

    back : y ++ s ≡ drop seam.right list
    back = back_parts seam.left seam.right list ordered

    behind : 0 < length (drop seam.right list)
    behind = omega (arith, some_begin s (begins list seam is ordered some), length-drop seam.left list, length-drop seam.right list, ordered)

-- ---- a seam that changes nothing

module _ {A : Type 0} where
  copies_turn : (p s : List A) (seams : ℕ) → p ++ (repeat seams (s ++ p) ++ s) ≡ repeat (suc seams) (p ++ s)
  copies_turn p s zero = sym (append-nil (p ++ s))
  copies_turn p s (suc seams) =
      ap (λ l. p ++ l) (append_assoc (s ++ p) (repeat seams (s ++ p)) s ∙ append_assoc s p (repeat seams (s ++ p) ++ s))
      ∙ sym (append_assoc p s (p ++ (repeat seams (s ++ p) ++ s)))
      ∙ ap (λ l. (p ++ s) ++ l) (copies_turn p s seams)

  -- what is woven with the middle that stands there anyway is the list so often
  pub woven_plain : (list middle : List A) (left right seams : ℕ) → right ≤ left → middle ≡ drop left list ++ take right list
      → woven list left right middle seams ≡ repeat (suc seams) list
  woven_plain list middle left right seams ordered plain =
      ap (λ unit. take left list ++ (repeat seams unit ++ drop left list))
      (ap (λ l. l ++ slice_range list right left) plain ∙ append_assoc (drop left list) (take right list) (slice_range list right left)
      ∙ ap (λ l. drop left list ++ l) (front_parts left right list ordered))
      ∙ copies_turn (take left list) (drop left list) seams
      ∙ ap (repeat (suc seams)) (take-append-drop left list)
