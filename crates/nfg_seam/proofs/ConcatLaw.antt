-- What a seam repairs, and what it leaves, is the concatenation.
use Rattle.std.proofs.Common.{◌≡◌, ◌⊎◌, ℕ, List, [], ◌∷◌, ◌++◌, take, drop, inl, inr, sym, ap, ap₂, subst, ◌∙◌, append_assoc, append-nil}
use Rattle.std.proofs.lemmas.List.{take-append-drop}
use Rattle.std.proofs.lemmas.List.Folds.{concat-append}
use Rattle.nfg_text.specs.Forms.{nfc}
use Rattle.nfg_text.specs.Graphemes.{clusters, graphemes_of, IsInNfg}
use Rattle.nfg_text.specs.Laws.{BreaksBefore}
use Rattle.nfg_text.specs.Operations.{concatenation}
use Rattle.nfg_text.specs.Text.{text_of}
use Rattle.nfg_text.proofs.Proved.{broken_where_parted, clusters_of_parts, graphemes_at_safe_start, parts_are_in_nfg}
use Rattle.nfg_seam.specs.Seam.{BeginSafely, GoOnSafely, IsSeam}
use Rattle.nfg_seam.specs.declared.seam.Seam.{Seam}
use Rattle.nfg_seam.proofs.SeamText.{text-in_nfc}

-- the clusters of the text of a list of graphemes are the list
pub clusters-text : (list : List (List ℕ)) → IsInNfg list → clusters (text_of list) ≡ list
clusters-text list nfg = ap clusters (sym (text-in_nfc list nfg)) ∙ sym nfg

-- the rules put a boundary between two parts of a list of graphemes
breaks-between : (front : List (List ℕ)) (c : ℕ) (cs : List ℕ) (back : List (List ℕ)) → IsInNfg (front ++ (c ∷ cs) ∷ back) → BreaksBefore (text_of front) c
breaks-between front c cs back nfg =
    let rest = (c ∷ cs) ∷ back in
    let whole = clusters-text (front ++ rest) nfg in
    let parts = clusters_of_parts (text_of (front ++ rest)) front rest whole in
    broken_where_parted (text_of front) c (cs ++ text_of back)
    (ap clusters (sym (concat-append front rest)) ∙ whole ∙ sym (ap₂ (λ x y. x ++ y) parts.0 parts.1))

-- what comes before a place at which a cluster begins safely stays
graphemes-before : (front rest : List (List ℕ)) (more : List ℕ) → IsInNfg (front ++ rest) → BeginSafely rest
    → graphemes_of (text_of front ++ (text_of rest ++ more)) ≡ front ++ graphemes_of (text_of rest ++ more)
graphemes-before front [] more nfg never = absurd never
graphemes-before front ([] ∷ rest) more nfg never = cc
graphemes-before front ((c ∷ cs) ∷ rest) more nfg safe =
    let both = parts_are_in_nfg front ((c ∷ cs) ∷ rest) nfg in
    let breaks = subst (λ t. BreaksBefore t c) (sym (text-in_nfc front both.0)) (breaks-between front c cs rest nfg) in
    graphemes_at_safe_start (text_of front) c ((cs ++ text_of rest) ++ more) safe breaks
    ∙ ap (λ g. g ++ graphemes_of (text_of ((c ∷ cs) ∷ rest) ++ more)) (sym both.0)

-- what comes after a boundary at which a cluster begins safely stays
graphemes-after : (middle text : List ℕ) (rest : List (List ℕ)) → text ≡ nfc middle → IsInNfg rest → GoOnSafely text rest
    → graphemes_of (middle ++ text_of rest) ≡ clusters text ++ rest
graphemes-after middle text [] is nfg safe =
    ap graphemes_of (append-nil middle) ∙ ap clusters (sym is) ∙ sym (append-nil (clusters text))
graphemes-after middle text ([] ∷ rest) is nfg never = absurd never
graphemes-after middle text ((c ∷ cs) ∷ rest) is nfg safe =
    graphemes_at_safe_start middle c (cs ++ text_of rest) safe.0 (subst (λ t. BreaksBefore t c) is safe.1)
    ∙ ap₂ (λ x y. x ++ y) (ap clusters (sym is)) (sym nfg)

-- the same before the left end of a seam, which may be the start
graphemes-from : (a : List (List ℕ)) (left : ℕ) (more : List ℕ) → IsInNfg a → (left ≡ 0) ⊎ BeginSafely (drop left a)
    → graphemes_of (text_of a ++ more) ≡ take left a ++ graphemes_of (text_of (drop left a) ++ more)
graphemes-from a left more nfg (inl start) =
    ap (λ n. take n a ++ graphemes_of (text_of (drop n a) ++ more)) (sym start)
graphemes-from a left more nfg (inr safe) =
    let whole = take-append-drop left a in
    ap graphemes_of (ap (λ l. text_of l ++ more) (sym whole) ∙ ap (λ t. t ++ more) (concat-append (take left a) (drop left a))
    ∙ append_assoc (text_of (take left a)) (text_of (drop left a)) more)
    ∙ graphemes-before (take left a) (drop left a) more (subst IsInNfg (sym whole) nfg) safe

-- the concatenation of two lists of graphemes, by a seam of both
pub concatenation-seam : (a b : List (List ℕ)) (seam : Seam) → IsInNfg a → IsInNfg b → IsSeam a b seam
    → concatenation a b ≡ take seam.left a ++ (clusters seam.text ++ drop seam.right b)
concatenation-seam a b seam nfg_a nfg_b is =
    let whole = take-append-drop seam.right b in
    let back = (parts_are_in_nfg (take seam.right b) (drop seam.right b) (subst IsInNfg (sym whole) nfg_b)).1 in
    let front = text_of (drop seam.left a) in
    graphemes-from a seam.left (text_of b) nfg_a is.left
    ∙ ap (λ t. take seam.left a ++ graphemes_of (front ++ t)) (ap text_of (sym whole) ∙ concat-append (take seam.right b) (drop seam.right b))
    ∙ ap (λ t. take seam.left a ++ graphemes_of t) (sym (append_assoc front (text_of (take seam.right b)) (text_of (drop seam.right b))))
    ∙ ap (λ g. take seam.left a ++ g) (graphemes-after (front ++ text_of (take seam.right b)) seam.text (drop seam.right b) is.text back is.right)
