-- The places at which bytes are cut, one after another.
use Rattle.std.proofs.Common.{◌≡◌, ℕ, zero, suc, ◌<◌, ◌≤◌, inl, inr, List, [], ◌∷◌, ◌++◌, length, get_or, refl, sym, ap, ◌∙◌, subst, arith}
use Rattle.std.proofs.lemmas.List.{length_push, get_or_append_left}
use Rattle.std.proofs.lemmas.Bool.{cases_lt}
use Rattle.std.proofs.Math.Seq.{get_or-append_seam}
use Rattle.nfg_work.specs.Parts.{AreBounds}

-- the bounds so far: from 0, up and up, to the last one
pub record AreSoFar (count : ℕ) (bounds : List ℕ) (k last : ℕ) : Type 0 where
  pub many : length bounds ≡ suc k
  pub first : get_or bounds 0 0 ≡ 0
  pub last_is : get_or bounds k 0 ≡ last
  pub last_within : last ≤ count
  pub ascending : (i : ℕ) → suc i < length bounds → get_or bounds i 0 ≤ get_or bounds (suc i) 0
  pub within : (i : ℕ) → i < length bounds → get_or bounds i 0 ≤ count

-- 0 alone
pub so_far_first : (count : ℕ) (bounds : List ℕ) → bounds ≡ 0 ∷ [] → AreSoFar count bounds 0 0
so_far_first count bounds is = subst (λ l. AreSoFar count l 0 0) (sym is) (record {
  many = refl;
  first = refl;
  last_is = refl;
  last_within = omega arith;
  ascending = λ i within. absurd (omega (arith, within));
  within = λ i within. at_one count i within;
})
  where
    at_one : (count i : ℕ) → i < 1 → get_or (0 ∷ []) i 0 ≤ count
    at_one count zero within = omega arith
    at_one count (suc i) within = absurd (omega (arith, within))

module _ (count : ℕ) (bounds : List ℕ) (k last next : ℕ) (so_far : AreSoFar count bounds k last) (up : last ≤ next) (within : next ≤ count) where
  abbrev more : List ℕ
  more = bounds ++ next ∷ []

  one_more : length more ≡ suc (suc k)
  one_more = omega (arith, length_push bounds next, so_far.many)

  at_before : (i : ℕ) → i < suc k → get_or more i 0 ≡ get_or bounds i 0
  at_before i before = get_or_append_left bounds (next ∷ []) 0 i (omega (arith, before, so_far.many))

  at_end : get_or more (suc k) 0 ≡ next
  at_end = ap (λ n. get_or more n 0) (sym so_far.many) ∙ get_or-append_seam bounds next [] 0

  ascends : (i : ℕ) → suc i < length more → get_or more i 0 ≤ get_or more (suc i) 0
  ascends i inside = elim (cases_lt i k) [
    | inl before ↦ omega (arith, at_before i (omega (arith, before)), at_before (suc i) (omega (arith, before)), so_far.ascending i (omega (arith, before, so_far.many)))
    | inr past ↦
        let same : i ≡ k = omega (arith, inside, one_more, past) in
        let here : get_or more i 0 ≡ last = ap (λ n. get_or more n 0) same ∙ at_before k (omega arith) ∙ so_far.last_is in
        let there : get_or more (suc i) 0 ≡ next = ap (λ n. get_or more (suc n) 0) same ∙ at_end in
        omega (arith, here, there, up)
  ]

  stays : (i : ℕ) → i < length more → get_or more i 0 ≤ count
  stays i inside = elim (cases_lt i (suc k)) [
    | inl before ↦ omega (arith, at_before i before, so_far.within i (omega (arith, before, so_far.many)))
    | inr past ↦
        let same : i ≡ suc k = omega (arith, inside, one_more, past) in
        omega (arith, ap (λ n. get_or more n 0) same, at_end, within)
  ]

  -- one more, not before the last
  pub so_far_more : AreSoFar count more (suc k) next
  so_far_more = record {
    many = one_more;
    first = at_before 0 (omega arith) ∙ so_far.first;
    last_is = at_end;
    last_within = within;
    ascending = ascends;
    within = stays;
  }

-- the end is the last one
pub so_far_whole : (count : ℕ) (bounds : List ℕ) (k : ℕ) → AreSoFar count bounds (suc k) count → AreBounds count bounds
so_far_whole count bounds k so_far = record {
  some = omega (arith, so_far.many);
  first = so_far.first;
  last = λ n is. ap (λ m. get_or bounds m 0) (at_last n is) ∙ so_far.last_is;
  ascending = so_far.ascending;
  within = so_far.within;
}
  where
    at_last : (n : ℕ) → suc n ≡ length bounds → n ≡ suc k
    at_last n is = omega (arith, is, so_far.many)
