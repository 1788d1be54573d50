-- What a sink was given, and the clusters themselves.
use Rattle.std.proofs.Common.{◌≡◌, ℕ, zero, suc, ◌+◌, ◌<◌, ◌≤◌, Bool, true, false, cond, List, [], ◌∷◌, ◌++◌, length, map, take, drop, Option, Some, None, refl, sym, ap, ap₂, subst, ◌∙◌, append-nil, append_assoc, arith, length-append}
use mathlib.Core.HLevel.{×_prop, Unit-prop}
use mathlib.Core.Logic.{∥∥₁_elim}
use native.Mathlib.Bridge.{le_prop}
use denote.Struct.Props.{≡_prop}
use Rattle.std.specs.Coded.{coded_bool, coded_option, coded_ℕ}
use Rattle.std.proofs.lemmas.List.{take_all}
use Rattle.std.proofs.lemmas.Iterator.Adapters.{position_from-zero}
use Rattle.std.proofs.lemmas.Bool.Decides.{nat_tests}
use Rattle.std.specs.List.{position_from, slice_index_or}
use Rattle.nfg_text.specs.Graphemes.{is_too_long}
use Rattle.nfg_segment.specs.Given.{Given, nothing, first_or, with_cluster, with_clusters}
use Rattle.nfg_syn.specs.Learned.{first_long}
use Rattle.nfg_stream.specs.Numbering.{IsCluster, AreClusters, Holds, HoldsSome}

-- the first long cluster, counted from i
abbrev pub long_from : ℕ → List (List ℕ) → Option ℕ
long_from i clusters = position_from is_too_long i clusters

pub first_long-from : (clusters : List (List ℕ)) → first_long clusters ≡ long_from 0 clusters
first_long-from clusters = position_from-zero is_too_long clusters

abbrev given_of : List (List ℕ) → Option ℕ → Given
given_of heads first_long = record { heads = heads; first_long = first_long }

abbrev or : Option ℕ → Option ℕ → Option ℕ
or (Some k) other = Some k
or None other = other

or-first : (o : Option ℕ) (long : Bool) (here : ℕ) (more : Option ℕ) → or (first_or o long here) more ≡ or o (cond long (Some here) more)
or-first (Some k) long here more = refl
or-first None true here more = refl
or-first None false here more = refl

-- what a sink has after some clusters more
pub with_clusters-given : (heads : List (List ℕ)) (o : Option ℕ) (cs : List (List ℕ))
    → with_clusters (given_of heads o) cs ≡ given_of (heads ++ map (take 1024) cs) (or o (long_from (length heads) cs))
with_clusters-given heads (Some k) [] = ap (λ l. given_of l (Some k)) (sym (append-nil heads))
with_clusters-given heads None [] = ap (λ l. given_of l None) (sym (append-nil heads))
with_clusters-given heads o (c ∷ cs) =
    with_clusters-given (heads ++ take 1024 c ∷ []) (first_or o (is_too_long c) (length heads)) cs
    ∙ ap₂ given_of (append_assoc heads (take 1024 c ∷ []) (map (take 1024) cs))
    (ap (λ n. or (first_or o (is_too_long c) (length heads)) (long_from n cs)) (length-append heads (take 1024 c ∷ []))
    ∙ or-first o (is_too_long c) (length heads) (long_from (length heads + 1) cs))

-- a sink that had nothing
pub Holds-given : (given : Given) (cs : List (List ℕ)) → given ≡ with_clusters nothing cs → AreClusters cs → Holds given cs
Holds-given given cs is are =
    let e = is ∙ with_clusters-given [] None cs in
    record {
      heads = ap (λ g. g.heads) e;
      first_long = ap (λ g. g.first_long) e ∙ sym (first_long-from cs);
      are = are;
    }

-- ---- where none is long

pub none_long : (i : ℕ) (c : List ℕ) (cs : List (List ℕ)) → long_from i (c ∷ cs) ≡ None → (length c ≤ 1024) × (long_from (i + 1) cs ≡ None)
none_long i c cs e = by (is_too_long c) refl e
  where
    at_most : is_too_long c ≡ false → length c ≤ 1024
    at_most f = grind (arith, nat_tests, f)

    by : (b : Bool) → is_too_long c ≡ b → cond b (Some i) (long_from (i + 1) cs) ≡ None → (length c ≤ 1024) × (long_from (i + 1) cs ≡ None)
    by true f g = cc
    by false f g = (at_most f, g)

pub heads-short : (i : ℕ) (cs : List (List ℕ)) → long_from i cs ≡ None → map (take 1024) cs ≡ cs
heads-short i [] e = refl
heads-short i (c ∷ cs) e =
    let parts = none_long i c cs e in
    ap₂ ◌∷◌ (take_all 1024 c parts.0) (heads-short (i + 1) cs parts.1)

pub Holds-short : (given : Given) (cs : List (List ℕ)) → Holds given cs → given.first_long ≡ None → given.heads ≡ cs
Holds-short given cs holds none = holds.heads ∙ heads-short 0 cs (sym (first_long-from cs) ∙ sym holds.first_long ∙ none)

short-at : (i : ℕ) (cs : List (List ℕ)) (k : ℕ) → long_from i cs ≡ None → k < length cs → length (slice_index_or cs k []) ≤ 1024
short-at i [] k e h = absurd (omega arith)
short-at i (c ∷ cs) zero e h = (none_long i c cs e).0
short-at i (c ∷ cs) (suc k) e h = short-at (i + 1) cs k (none_long i c cs e).1 (omega (arith, h))

pub cluster_short : (cs : List (List ℕ)) (k : ℕ) → first_long cs ≡ None → k < length cs → length (slice_index_or cs k []) ≤ 1024
cluster_short cs k e h = short-at 0 cs k (sym (first_long-from cs) ∙ e) h

pub cluster_at : (cs : List (List ℕ)) (k : ℕ) → AreClusters cs → k < length cs → IsCluster (slice_index_or cs k [])
cluster_at [] k are h = absurd (omega arith)
cluster_at (c ∷ cs) zero are h = are.0
cluster_at (c ∷ cs) (suc k) are h = cluster_at cs k are.1 (omega (arith, h))

-- the cluster at a place, between those before it and those behind it
pub split_at : (cs : List (List ℕ)) (k : ℕ) → k < length cs → cs ≡ take k cs ++ slice_index_or cs k [] ∷ drop (suc k) cs
split_at [] k h = absurd (omega arith)
split_at (c ∷ cs) zero h = refl
split_at (c ∷ cs) (suc k) h = ap (λ l. c ∷ l) (split_at cs k (omega (arith, h)))

pub with_clusters-append : (g : Given) (a b : List (List ℕ)) → with_clusters g (a ++ b) ≡ with_clusters (with_clusters g a) b
with_clusters-append g [] b = refl
with_clusters-append g (c ∷ cs) b = with_clusters-append (with_cluster g c) cs b

AreClusters-prop : (cs : List (List ℕ)) → IsProp (AreClusters cs)
AreClusters-prop [] = Unit-prop
AreClusters-prop (c ∷ cs) = ×_prop (×_prop (≡_prop coded_bool _ _) le_prop) (AreClusters-prop cs)

-- where no cluster is long, a sink has clusters
pub clusters-short : (given : Given) → HoldsSome given → given.first_long ≡ None → AreClusters given.heads
clusters-short given some none =
    ∥∥₁_elim some (AreClusters-prop given.heads) (λ x. subst AreClusters (sym (Holds-short given x.0 x.1 none)) x.1.are)

pub heads-none : (given : Given) → HoldsSome given → given.first_long ≡ None → first_long given.heads ≡ None
heads-none given some none = ∥∥₁_elim some (≡_prop (coded_option coded_ℕ) _ _) (λ x. subst (λ cs. first_long cs ≡ None) (sym (Holds-short given x.0 x.1 none)) (sym x.1.first_long ∙ none))
