-- A cluster that goes on is one cluster, and what it ends can be told from it alone.
use Rattle.std.proofs.Common.{◌≡◌, ℕ, Bool, true, false, List, [], ◌∷◌, ◌++◌, reverse, length, ◌≤◌, if◌then◌else◌, refl, sym, ap, ap₂, ◌∙◌, append_assoc, append-nil, arith}
use Rattle.nfg_text.specs.Grapheme.{is_grapheme_break}
use Rattle.nfg_text.specs.Segments.{cut}
use Rattle.nfg_text.specs.Graphemes.{clusters}
use Rattle.nfg_text.proofs.AtBreak.{clusters-nil, onto-reverse, reads_one_ahead}
use Rattle.nfg_text.proofs.Cuts.{cut-cons, cut-nil, cut_some, put_first, put_first-nil, onto}
use Rattle.nfg_text.proofs.Proved.{clusters_where_broken}
use Rattle.nfg_segment.specs.Held.{ends_before, closed, left_open, next, next_all, closed_all, as_list}

-- the text is one cluster, or empty
abbrev pub IsOne : List ℕ → Type 0
IsOne cluster = clusters cluster ≡ as_list cluster

cut-one : (before : List ℕ) (c : ℕ) → cut (is_grapheme_break true) before (c ∷ []) [] ≡ (c ∷ []) ∷ []
cut-one before c =
    let rule = is_grapheme_break true in
    cut-cons rule before c [] [] ∙ ap (put_first _ (c ∷ [])) (cut-nil rule (c ∷ before) []) ∙ put_first-nil _ (c ∷ [])

pub clusters-single : (c : ℕ) → clusters (c ∷ []) ≡ (c ∷ []) ∷ []
clusters-single c = cut-one [] c

-- one part in all means no break after the first code point
not_broken : (b : Bool) (k : ℕ) (parts : List (List ℕ)) (d : ℕ) (ds : List ℕ) → put_first b (k ∷ []) parts ≡ (k ∷ d ∷ ds) ∷ [] → (b ≡ false) × (parts ≡ (d ∷ ds) ∷ [])
not_broken true k parts d ds e = cc
not_broken false k [] d ds e = cc
not_broken false k (p ∷ ps) d ds e = (refl, cc)

-- a code point that is not broken off goes on with the one part
cut-longer : (before : List ℕ) (k : ℕ) (ks : List ℕ) (c : ℕ) → cut (is_grapheme_break true) before (k ∷ ks) [] ≡ (k ∷ ks) ∷ []
    → is_grapheme_break true (onto ks (k ∷ before)) (c ∷ []) ≡ false
    → cut (is_grapheme_break true) before ((k ∷ ks) ++ c ∷ []) [] ≡ ((k ∷ ks) ++ c ∷ []) ∷ []
cut-longer before k [] c one joins =
    cut-cons (is_grapheme_break true) before k (c ∷ []) [] ∙ ap₂ (λ b ps. put_first b (k ∷ []) ps) joins (cut-one (k ∷ before) c)
cut-longer before k (d ∷ ds) c one joins =
    let rule = is_grapheme_break true in
    let rest = not_broken _ k (cut rule (k ∷ before) (d ∷ ds) []) d ds (sym (cut-cons rule before k (d ∷ ds) []) ∙ one) in
    cut-cons rule before k ((d ∷ ds) ++ c ∷ []) []
    ∙ ap₂ (λ b ps. put_first b (k ∷ []) ps) (reads_one_ahead (k ∷ before) d _ _ ∙ rest.0) (cut-longer (k ∷ before) d ds c rest.1 joins)

onto-whole : (k : ℕ) (ks : List ℕ) → onto ks (k ∷ []) ≡ reverse (k ∷ ks)
onto-whole k ks = onto-reverse (k ∷ ks) [] ∙ append-nil (reverse (k ∷ ks))

-- ---- one code point more

pub IsOne-next : (k : List ℕ) (c : ℕ) → IsOne k → IsOne (next k c)
IsOne-next [] c one = clusters-single c
IsOne-next (x ∷ xs) c one = by (is_grapheme_break true (reverse (x ∷ xs)) (c ∷ [])) refl
  where
    by : (b : Bool) → is_grapheme_break true (reverse (x ∷ xs)) (c ∷ []) ≡ b → IsOne ((if b then [] else x ∷ xs) ++ c ∷ [])
    by true e = clusters-single c
    by false e = cut-longer [] x xs c one (ap (λ l. is_grapheme_break true l (c ∷ [])) (onto-whole x xs) ∙ e)

pub next-goes_on : (k : List ℕ) (c : ℕ) (y : List ℕ) → IsOne k → clusters (k ++ c ∷ y) ≡ closed k c ++ clusters (next k c ++ y)
next-goes_on [] c y one = refl
next-goes_on (x ∷ xs) c y one = by (is_grapheme_break true (reverse (x ∷ xs)) (c ∷ [])) refl
  where
    by : (b : Bool) → is_grapheme_break true (reverse (x ∷ xs)) (c ∷ []) ≡ b
        → clusters ((x ∷ xs) ++ c ∷ y) ≡ (if b then (x ∷ xs) ∷ [] else []) ++ clusters (((if b then [] else x ∷ xs) ++ c ∷ []) ++ y)
    by true e = clusters_where_broken (x ∷ xs) c y (reads_one_ahead (reverse (x ∷ xs)) c y [] ∙ e) ∙ ap (λ l. l ++ clusters (c ∷ y)) one
    by false e = ap clusters (sym (append_assoc (x ∷ xs) (c ∷ []) y))

-- ---- some code points more

pub IsOne-next_all : (k cs : List ℕ) → IsOne k → IsOne (next_all k cs)
IsOne-next_all k [] one = one
IsOne-next_all k (c ∷ cs) one = IsOne-next_all (next k c) cs (IsOne-next k c one)

pub next_all-goes_on : (k cs y : List ℕ) → IsOne k → clusters (k ++ (cs ++ y)) ≡ closed_all k cs ++ clusters (next_all k cs ++ y)
next_all-goes_on k [] y one = refl
next_all-goes_on k (c ∷ cs) y one =
    next-goes_on k c (cs ++ y) one ∙ ap (λ l. closed k c ++ l) (next_all-goes_on (next k c) cs y (IsOne-next k c one))
    ∙ sym (append_assoc (closed k c) (closed_all (next k c) cs) (clusters (next_all (next k c) cs ++ y)))

-- ---- what stays open before a code point

pub IsOne-left_open : (k : List ℕ) (c : ℕ) → IsOne k → IsOne (left_open k c)
IsOne-left_open k c one = by (ends_before k c)
  where
    by : (b : Bool) → IsOne (if b then [] else k)
    by true = clusters-nil
    by false = one

pub length-as_list : (k : List ℕ) → length (as_list k) ≤ 1
length-as_list [] = omega arith
length-as_list (x ∷ xs) = omega arith

-- a text that is not empty has a cluster
pub clusters_some : (c : ℕ) (cs : List ℕ) → 1 ≤ length (clusters (c ∷ cs))
clusters_some c cs = by (clusters (c ∷ cs)) (cut_some (is_grapheme_break true) [] c cs [])
  where
    by : (l : List (List ℕ)) → (l ≡ [] → ⊥) → 1 ≤ length l
    by [] some = absurd (some refl)
    by (x ∷ xs) some = omega arith
