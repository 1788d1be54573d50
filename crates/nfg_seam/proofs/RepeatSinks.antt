-- What a sink was given of a text, and the clusters themselves.
use Rattle.std.proofs.Common.{◌≡◌, ℕ, zero, suc, ◌+◌, ◌<◌, ◌≤◌, Bool, true, false, cond, if◌then◌else◌, List, [], ◌∷◌, ◌++◌, length, map, take, drop, Option, Some, None, refl, sym, ap, ap₂, subst, ◌∙◌, append-nil, append_assoc, arith, length-append}
use Rattle.std.proofs.lemmas.List.{take_all}
use Rattle.std.proofs.lemmas.Iterator.Adapters.{position_from-zero}
use Rattle.std.proofs.lemmas.Bool.Decides.{nat_tests}
use Rattle.std.specs.List.{position_from, slice_index_or, concat}
use Rattle.nfg_text.specs.Grapheme.{is_grapheme_break}
use Rattle.nfg_text.specs.Segments.{Rule, cut, prepend}
use Rattle.nfg_text.specs.Graphemes.{graphemes_of, is_too_long}
use Rattle.nfg_text.specs.Text.{IsText}
use Rattle.nfg_text.proofs.Proved.{graphemes_spell_nfc, nfc_of_text, parts_of_text}
use Rattle.nfg_segment.specs.Given.{Given, nothing, first_or, with_cluster, with_clusters}
use Rattle.nfg_syn.specs.Learned.{first_long}
use Rattle.nfg_seam.specs.Numbered.{IsCluster, AreClusters, Holds}

-- the first long cluster, counted from i
abbrev pub long_from : ℕ → List (List ℕ) → Option ℕ
long_from i clusters = position_from is_too_long i clusters

pub first_long-from : (clusters : List (List ℕ)) → first_long clusters ≡ long_from 0 clusters
first_long-from clusters = position_from-zero is_too_long clusters

abbrev given_of : List (List ℕ) → Option ℕ → Given
given_of heads first_long = record { heads = heads; first_long = first_long }

abbrev or : Option ℕ → Option ℕ → Option ℕ
or (Some k) other = Some k
or None other = other

or-first : (o : Option ℕ) (long : Bool) (here : ℕ) (more : Option ℕ) → or (first_or o long here) more ≡ or o (cond long (Some here) more)
or-first (Some k) long here more = refl
or-first None true here more = refl
or-first None false here more = refl

-- what a sink has after some clusters more
with_clusters-given : (heads : List (List ℕ)) (o : Option ℕ) (cs : List (List ℕ))
    → with_clusters (given_of heads o) cs ≡ given_of (heads ++ map (take 1024) cs) (or o (long_from (length heads) cs))
with_clusters-given heads (Some k) [] = ap (λ l. given_of l (Some k)) (sym (append-nil heads))
with_clusters-given heads None [] = ap (λ l. given_of l None) (sym (append-nil heads))
with_clusters-given heads o (c ∷ cs) =
    with_clusters-given (heads ++ take 1024 c ∷ []) (first_or o (is_too_long c) (length heads)) cs
    ∙ ap₂ given_of (append_assoc heads (take 1024 c ∷ []) (map (take 1024) cs))
    (ap (λ n. or (first_or o (is_too_long c) (length heads)) (long_from n cs)) (length-append heads (take 1024 c ∷ []))
    ∙ or-first o (is_too_long c) (length heads) (long_from (length heads + 1) cs))

-- a sink that had nothing
Holds-given : (given : Given) (cs : List (List ℕ)) → given ≡ with_clusters nothing cs → AreClusters cs → Holds given cs
Holds-given given cs is are =
    let e = is ∙ with_clusters-given [] None cs in
    record {
      heads = ap (λ g. g.heads) e;
      first_long = ap (λ g. g.first_long) e ∙ sym (first_long-from cs);
      are = are;
    }

-- ---- where none is long

pub none_long : (i : ℕ) (c : List ℕ) (cs : List (List ℕ)) → long_from i (c ∷ cs) ≡ None → (length c ≤ 1024) × (long_from (i + 1) cs ≡ None)
none_long i c cs e = by (is_too_long c) refl e
  where
    at_most : is_too_long c ≡ false → length c ≤ 1024
    at_most f = grind (arith, nat_tests, f)

    by : (b : Bool) → is_too_long c ≡ b → cond b (Some i) (long_from (i + 1) cs) ≡ None → (length c ≤ 1024) × (long_from (i + 1) cs ≡ None)
    by true f g = cc
    by false f g = (at_most f, g)

heads-short : (i : ℕ) (cs : List (List ℕ)) → long_from i cs ≡ None → map (take 1024) cs ≡ cs
heads-short i [] e = refl
heads-short i (c ∷ cs) e =
    let parts = none_long i c cs e in
    ap₂ ◌∷◌ (take_all 1024 c parts.0) (heads-short (i + 1) cs parts.1)

pub Holds-short : (given : Given) (cs : List (List ℕ)) → Holds given cs → given.first_long ≡ None → given.heads ≡ cs
Holds-short given cs holds none = holds.heads ∙ heads-short 0 cs (sym (first_long-from cs) ∙ sym holds.first_long ∙ none)

short-at : (i : ℕ) (cs : List (List ℕ)) (k : ℕ) → long_from i cs ≡ None → k < length cs → length (slice_index_or cs k []) ≤ 1024
short-at i [] k e h = absurd (omega arith)
short-at i (c ∷ cs) zero e h = (none_long i c cs e).0
short-at i (c ∷ cs) (suc k) e h = short-at (i + 1) cs k (none_long i c cs e).1 (omega (arith, h))

pub cluster_short : (cs : List (List ℕ)) (k : ℕ) → first_long cs ≡ None → k < length cs → length (slice_index_or cs k []) ≤ 1024
cluster_short cs k e h = short-at 0 cs k (sym (first_long-from cs) ∙ e) h

pub cluster_at : (cs : List (List ℕ)) (k : ℕ) → AreClusters cs → k < length cs → IsCluster (slice_index_or cs k [])
cluster_at [] k are h = absurd (omega arith)
cluster_at (c ∷ cs) zero are h = are.0
cluster_at (c ∷ cs) (suc k) are h = cluster_at cs k are.1 (omega (arith, h))

-- the cluster at a place, between those before it and those behind it
pub split_at : (cs : List (List ℕ)) (k : ℕ) → k < length cs → cs ≡ take k cs ++ slice_index_or cs k [] ∷ drop (suc k) cs
split_at [] k h = absurd (omega arith)
split_at (c ∷ cs) zero h = refl
split_at (c ∷ cs) (suc k) h = ap (λ l. c ∷ l) (split_at cs k (omega (arith, h)))

pub with_clusters-append : (g : Given) (a b : List (List ℕ)) → with_clusters g (a ++ b) ≡ with_clusters (with_clusters g a) b
with_clusters-append g [] b = refl
with_clusters-append g (c ∷ cs) b = with_clusters-append (with_cluster g c) cs b

-- ---- the graphemes of a text are texts, and none of them is empty

AreSome : List (List ℕ) → Type 0
AreSome [] = Unit {0}
AreSome (p ∷ ps) = (0 < length p) × AreSome ps

AreSome-prepend : (c : ℕ) (ps : List (List ℕ)) → AreSome ps → AreSome (prepend (c ∷ []) ps)
unfolding AreSome
AreSome-prepend c [] all = (omega arith, tt)
AreSome-prepend c (p ∷ ps) all = (omega (arith, length-append (c ∷ []) p), all.1)

AreSome-cut : (rule : Rule) (before cs after : List ℕ) → AreSome (cut rule before cs after)
unfolding AreSome cut
AreSome-cut rule before [] after = tt
AreSome-cut rule before (c ∷ cs) after = by (rule (c ∷ before) (cs ++ after)) (cut rule (c ∷ before) cs after) (AreSome-cut rule (c ∷ before) cs after)
  where
    by : (b : Bool) (ps : List (List ℕ)) → AreSome ps → AreSome (if b then (c ∷ []) ∷ ps else prepend (c ∷ []) ps)
    by true ps all = (omega arith, all)
    by false ps all = AreSome-prepend c ps all

AreClusters-parts : (cs : List (List ℕ)) → AreSome cs → IsText (concat cs) → AreClusters cs
unfolding AreSome
AreClusters-parts [] some text = tt
AreClusters-parts (c ∷ cs) some text =
    let parts = (parts_of_text c (concat cs)).0 text in
    ((parts.0, some.0), AreClusters-parts cs some.1 parts.1)

AreClusters-graphemes : (t : List ℕ) → IsText t → AreClusters (graphemes_of t)
AreClusters-graphemes t text =
    AreClusters-parts (graphemes_of t) (AreSome-cut (is_grapheme_break true) [] _ [])
    (subst IsText (sym (graphemes_spell_nfc t)) (nfc_of_text t text))

-- a sink that had nothing, when a segmenter was fed a text and has finished
pub Holds-finished : (fed all : Given) (first last : List (List ℕ)) (t : List ℕ) → IsText t → fed ≡ with_clusters nothing first
    → all ≡ with_clusters fed last → first ++ last ≡ graphemes_of t → Holds all (graphemes_of t)
Holds-finished fed all first last t text is finished whole =
    Holds-given all (graphemes_of t)
    (finished ∙ ap (λ g. with_clusters g last) is ∙ sym (with_clusters-append nothing first last) ∙ ap (with_clusters nothing) whole)
    (AreClusters-graphemes t text)
