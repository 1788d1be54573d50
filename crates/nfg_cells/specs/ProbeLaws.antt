-- Laws of the probe sequence: no text is found at two places, and it goes over the whole row.
use Rattle.std.proofs.Common.{◌≡◌, ◌≢◌, ℕ, ◌+◌, ◌-◌, ◌*◌, ◌%◌, ◌<◌, List, [], ◌∷◌, ◌++◌, Option, Some, None, IsSome, inl, inr, ◌/◌, refl, sym, ap, ◌∙◌, arith, subst}
use Rattle.std.proofs.lemmas.Bool.{cases_lt}
use Rattle.std.proofs.lemmas.Nat.{div-add-mod', mod_below, mod-mul-add}
use Rattle.nfg_syn.specs.Refusal.{IsTableFull}
use mathlib.Core.Logic.{dite}
use native.Mathlib.Decide.{ℕ_discrete, dec_lt}
use Rattle.nfg_syn.specs.Known.{Texts, IsWithin}
use Rattle.nfg_syn.specs.KnownLaws.{same_text}
use Rattle.nfg_cells.specs.Probe.{hash_from, probed, ArePassed, IsFound}

-- both have the same text where both have one
abbrev pub AreAgreed : Texts → Texts → Type 0
AreAgreed one other = (k : ℕ) (t u : List ℕ) → one k ≡ Some t → other k ≡ Some u → t ≡ u

-- they do so at the first places, as many as `count`
abbrev pub AreAgreedBelow : ℕ → Texts → Texts → Type 0
AreAgreedBelow count one other = (k : ℕ) (t u : List ℕ) → k < count → one k ≡ Some t → other k ≡ Some u → t ≡ u

pub ArePassed-grows : (n : ℕ) (old new : Texts) (t : List ℕ) (steps : ℕ) → IsWithin old new → ArePassed n old t steps → ArePassed n new t steps
ArePassed-grows n old new t steps within passed step less =
    let here = passed step less in (here.0, within (probed n t step) here.0 here.1, here.2)

pub IsFound-grows : (n : ℕ) (old new : Texts) (k : ℕ) (t : List ℕ) → IsWithin old new → IsFound n old k t → IsFound n new k t
IsFound-grows n old new k t within found = record {
  here = within k t found.here;
  step = found.step;
  within = found.within;
  reached = found.reached;
  passed = ArePassed-grows n old new t found.step within found.passed;
}

-- a place that holds the text is none of those that are passed by
not_earlier : (n : ℕ) (one other : Texts) (t : List ℕ) (k step steps : ℕ) → AreAgreed one other → one k ≡ Some t → probed n t step ≡ k → ArePassed n other t steps → step < steps → ⊥
not_earlier n one other t k step steps agreed here reached passed less =
    let at = passed step less in at.2 (sym (agreed k t at.0 here (ap other (sym reached) ∙ at.1)))

-- a text is found at one place alone, by two that agree
pub IsFound-one : (n : ℕ) (one other : Texts) (t : List ℕ) (a b : ℕ) → AreAgreed one other → IsFound n one a t → IsFound n other b t → a ≡ b
IsFound-one n one other t a b agreed here there = dite (ℕ_discrete here.step there.step)
    (λ same. sym here.reached ∙ (ap (probed n t) same ∙ there.reached))
    (λ differ. dite (dec_lt here.step there.step)
    (λ less. absurd (not_earlier n one other t a here.step there.step agreed here.here here.reached there.passed less))
    (λ more. absurd (not_earlier n other one t b there.step here.step (λ k u v e f. sym (agreed k v u f e)) there.here there.reached here.passed (omega arith))))

-- one place more is passed by
pub ArePassed-more : (n : ℕ) (places : Texts) (t other : List ℕ) (steps : ℕ) → ArePassed n places t steps → places (probed n t steps) ≡ Some other → other ≢ t → ArePassed n places t (steps + 1)
ArePassed-more n places t other steps passed here differs step less = dite (ℕ_discrete step steps)
    (λ same. (other, ap (λ i. places (probed n t i)) same ∙ here, differs))
    (λ before. passed step (omega arith))

pub hash_from-push : (hash : ℕ) (codes : List ℕ) (code : ℕ) → hash_from hash (codes ++ code ∷ []) ≡ (hash_from hash codes * 31 + code) % 4294967296
hash_from-push hash [] code = refl
hash_from-push hash (first ∷ codes) code = hash_from-push ((hash * 31 + first) % 4294967296) codes code

-- a text that is found is not passed by at all places
pub not_full : (n : ℕ) (places : Texts) (t : List ℕ) (k : ℕ) → IsFound n places k t → ArePassed n places t n → ⊥
not_full n places t k found passed = not_earlier n places places t k found.step n (λ j u v e f. same_text u v (sym e ∙ f)) found.here found.reached passed found.within

-- where a text is found, no place is empty that is tried before it is reached
pub never_unseen : (n : ℕ) (places : Texts) (t : List ℕ) (k step : ℕ) → IsFound n places k t → ArePassed n places t step → places (probed n t step) ≡ None → ⊥
never_unseen n places t k step found passed unseen = dite (ℕ_discrete found.step step)
    (λ same. let here : places (probed n t step) ≡ Some t = ap (λ i. places (probed n t i)) (sym same) ∙ (ap places found.reached ∙ found.here) in cc)
    (λ differ. dite (dec_lt found.step step)
    (λ less. not_earlier n places places t k found.step step (λ j u v e f. same_text u v (sym e ∙ f)) found.here found.reached passed less)
    (λ more. let other = found.passed step (omega arith) in let here = other.1 in cc))

next_round : (q n : ℕ) → (q + 1) * n ≡ q * n + n
next_round q n = grind arith

before : (q n r hash k : ℕ) → q * n + r ≡ hash → r < n → k < r → hash + ((n + k) - r) ≡ (q + 1) * n + k
before q n r hash k split low less = let round = next_round q n in omega arith

-- each place of the row is tried
pub around : (n hash k : ℕ) → k < n → (step : ℕ) × (step < n) × ((hash + step) % n ≡ k)
around n hash k below =
    let split : hash / n * n + hash % n ≡ hash = div-add-mod' hash n in
    let low : hash % n < n = mod_below hash n (omega arith) in
    elim (cases_lt k (hash % n)) [
      | inl less ↦ ((n + k) - hash % n, omega arith, ap (λ x. x % n) (before (hash / n) n (hash % n) hash k split low less) ∙ mod-mul-add (hash / n + 1) n k below)
      | inr past ↦ (k - hash % n, omega arith, let on : hash + (k - hash % n) ≡ hash / n * n + k = omega arith in ap (λ x. x % n) on ∙ mod-mul-add (hash / n) n k below)
    ]

-- where all places of its sequence hold other texts, the table is full
pub IsTableFull-passed : (n : ℕ) (places : Texts) (t : List ℕ) → ((k : ℕ) (u : List ℕ) → places k ≡ Some u → k < n) → ArePassed n places t n → IsTableFull n places t
IsTableFull-passed n places t rows passed = record {
  taken = λ k below. let at = around n (hash_from 0 t) k below in let other = passed at.0 at.1 in some_at (places k) other.0 (ap places (sym at.2) ∙ other.1);
  absent = λ k here.
      let at = around n (hash_from 0 t) k (rows k t here) in
      let other = passed at.0 at.1 in
      other.2 (same_text other.0 t (sym other.1 ∙ (ap places at.2 ∙ here)));
} where
  some_at : (found : Option (List ℕ)) (u : List ℕ) → found ≡ Some u → IsSome found
  some_at found u e = subst (λ o. IsSome o) (sym e) refl
