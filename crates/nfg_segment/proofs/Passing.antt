-- The open cluster where it has been given out, and the text behind it.
use Rattle.std.proofs.Common.{◌≡◌, ℕ, zero, suc, ◌+◌, ◌-◌, ◌<◌, ◌≤◌, List, [], ◌∷◌, ◌++◌, length, take, drop, refl, sym, ap, ap₂, subst, ◌∙◌, arith, inl, inr}
use Rattle.std.proofs.lemmas.Bool.{cases_lt}
use Rattle.std.proofs.lemmas.List.{length-take, take-append-drop}
use Rattle.std.specs.List.{slice_range}
use Rattle.nfg_segment.specs.Given.{Given, with_clusters}
use Rattle.nfg_segment.specs.Held.{Unfinished, Keeps, next_all, closed_all}
use Rattle.nfg_segment.specs.Reach.{Reaches, HasPassed}
use Rattle.nfg_segment.specs.declared.open_reach.Reach.{Reach}
use Rattle.nfg_segment.proofs.Machine.{with_clusters-append}
use Rattle.nfg_segment.proofs.Reaching.{slice_length}
use Rattle.nfg_segment.proofs.SafeRuns.{next_all-append, closed_all-append}

-- where nothing is held, there is no cluster
pub none_held : (head k : List ℕ) → head ≡ take 1024 k → length head ≡ 0 → k ≡ []
none_held head [] e none = refl
none_held head (x ∷ xs) e none = absurd (omega (arith, ap length e, none, length-take 1024 (x ∷ xs)))

-- nothing is held, so at most one code point of the text belongs to the cluster
pub is_near : (start at n : ℕ) → (start + 1 < at → 0 < n) → n ≡ 0 → at ≤ start + 1
is_near start at n far none =
    elim (cases_lt (start + 1) at) [
      | inl less ↦ let some = far less in absurd (omega (arith, some, none))
      | inr more ↦ more
    ]

drop-drop : (t : List ℕ) (s n : ℕ) → drop n (drop s t) ≡ drop (s + n) t
drop-drop t zero n = let e : n ≡ 0 + n = omega arith in ap (λ k. drop k t) e
drop-drop [] (suc s) n = nothing n ∙ sym (nothing (suc s + n))
  where
    nothing : (k : ℕ) → drop {A = ℕ} k [] ≡ []
    nothing zero = refl
    nothing (suc k) = refl
drop-drop (x ∷ xs) (suc s) n =
    let e : suc s + n ≡ suc (s + n) = omega arith in drop-drop xs s n ∙ ap (λ k. drop k (x ∷ xs)) (sym e)

-- a text from one place on, parted at another
pub drop-parted : (t : List ℕ) (s at : ℕ) → s ≤ at → drop s t ≡ slice_range t s at ++ drop at t
drop-parted t s at low =
    let e : s + (at - s) ≡ at = omega (arith, low) in
    sym (take-append-drop (at - s) (drop s t)) ∙ ap (λ l. slice_range t s at ++ l) (drop-drop t s (at - s) ∙ ap (λ k. drop k t) e)

record IsAlone (l : List ℕ) : Type 0 where
  next : next_all [] l ≡ l
  closed : closed_all [] l ≡ []

-- one code point at most is one cluster at most
alone : (l : List ℕ) → length l ≤ 1 → IsAlone l
alone [] few = record { next = refl; closed = refl }
alone (x ∷ []) few = record { next = refl; closed = refl }
alone (x ∷ (y ∷ l)) few = absurd (omega (arith, few))

module _ (h : Unfinished) (t : List ℕ) (at : ℕ) (r : Reach) (cluster : List ℕ) (first out : Given) (reaches : Reaches h t at r (next_all cluster (take at t)))
    (given : out ≡ with_clusters first (closed_all cluster (take at t))) (low : r.start ≤ at) (near : at ≤ r.start + 1) (high : at ≤ length t) (none : length h.head ≡ 0) where
  abbrev left : List ℕ
  left = slice_range t r.start at

  abbrev rest : List ℕ
  rest = drop at t

  nothing : reaches.before ≡ []
  nothing = none_held h.head reaches.before reaches.keeps.head none

  is_open : next_all cluster (take at t) ≡ left
  is_open = reaches.whole ∙ ap (λ b. b ++ left) nothing

  one : IsAlone left
  one = alone left (omega (arith, slice_length t r.start at low high, near))

  whole : take at t ++ rest ≡ t
  whole = take-append-drop at t

  behind : drop r.start t ≡ left ++ rest
  behind = drop-parted t r.start at low

  pub has_passed : HasPassed h first out cluster t r.start
  has_passed =
      record {
        none = subst (Keeps h) nothing reaches.keeps;
        last = ap (next_all cluster) (sym whole) ∙ next_all-append cluster (take at t) rest ∙ ap (λ k. next_all k rest) is_open
            ∙ sym (ap (next_all []) behind ∙ next_all-append [] left rest ∙ ap (λ k. next_all k rest) one.next);
        given = ap₂ with_clusters given (ap (closed_all []) behind ∙ closed_all-append [] left rest ∙ ap₂ (λ l k. l ++ closed_all k rest) one.closed one.next)
            ∙ sym (with_clusters-append first (closed_all cluster (take at t)) (closed_all left rest))
            ∙ ap (λ k. with_clusters first (closed_all cluster (take at t) ++ closed_all k rest)) (sym is_open)
            ∙ ap (with_clusters first) (sym (closed_all-append cluster (take at t) rest) ∙ ap (closed_all cluster) whole);
      }
