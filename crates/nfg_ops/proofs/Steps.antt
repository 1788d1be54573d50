-- What a look at one place says of the places after it.
use Rattle.std.proofs.Common.{◌≡◌, inl, inr, min, max, ℕ, ◌+◌, ◌-◌, ◌<◌, ◌≤◌, List, length, Bool, true, false, ℤ, sym, ap, ◌∙◌, arith, if◌then◌else◌}
use Rattle.std.proofs.lemmas.Bool.{cases_lt, false_from_ne_true}
use Rattle.nfg_ops.specs.Cuts.{number_at, IsRepeat, IsCut}
use Rattle.nfg_ops.specs.Places.{stand_at}
use Rattle.nfg_ops.specs.declared.cut.Cut.{Cut}
use Rattle.nfg_ops.proofs.Numbers.{stand-reads}

module _ (xs ys : List ℤ) (cut : Cut) (is : IsCut (number_at ys) (length ys) cut) (place : ℕ) where
  moved-place : (start k : ℕ) → start ≤ k → number_at xs (place + start + (k - start)) ≡ number_at ys (start + (k - start)) → number_at xs (place + k) ≡ number_at ys k
  moved-place start k low e =
      let first : place + start + (k - start) ≡ place + k = omega (arith, low) in
      let second : start + (k - start) ≡ k = omega (arith, low) in
      ap (number_at xs) (sym first) ∙ e ∙ ap (number_at ys) second

  -- an occurrence d places later repeats what stands here, at the critical place
  repeats : (d end : ℕ) → cut.critical + d ≤ end → ((k : ℕ) → cut.critical ≤ k → k < end → number_at xs (place + k) ≡ number_at ys k)
      → ((k : ℕ) → k < length ys → number_at xs (place + d + k) ≡ number_at ys k) → IsRepeat (number_at ys) (length ys) cut.critical d
  repeats d end room stands later k before low high =
      let swap : place + d + k ≡ place + (k + d) = omega arith in
      sym (later k (omega (arith, high))) ∙ ap (number_at xs) swap ∙ stands (k + d) low (omega (arith, before, room))

  -- what stands from the critical place on ends in a difference at `end`
  pub none-right : (end : ℕ) → cut.critical ≤ end → end < length ys → ((k : ℕ) → cut.critical ≤ k → k < end → number_at xs (place + k) ≡ number_at ys k)
      → (number_at xs (place + end) ≡ number_at ys end → ⊥) → (k : ℕ) → place < k → k < place + (end - cut.critical) + 1 → stand_at xs ys k ≡ false
  none-right end low inside stands differs k after near = false_from_ne_true (stand_at xs ys k) (λ occurs.
      let d = k - place in
      let on : place + d ≡ k = omega (arith, after) in
      let later = (stand-reads xs ys k occurs).1 in
      let moved : (j : ℕ) → j < length ys → number_at xs (place + d + j) ≡ number_at ys j = λ j below. ap (λ n. number_at xs (n + j)) on ∙ later j below in
      let period = is.critical d (omega (arith, after)) (repeats d end (omega (arith, near, low)) stands moved) in
      let back : end - d + d ≡ end = omega (arith, near, low) in
      let there : place + d + (end - d) ≡ place + end = omega (arith, near, low) in
      let same = period (end - d) (omega (arith, back, inside)) in
      differs (ap (number_at xs) (sym there) ∙ moved (end - d) (omega (arith, inside)) ∙ same ∙ ap (number_at ys) back))

  -- all from the critical place on stands here
  pub none-left : ((k : ℕ) → cut.critical ≤ k → k < length ys → number_at xs (place + k) ≡ number_at ys k)
      → (k : ℕ) → place < k → k < place + cut.shift → stand_at xs ys k ≡ false
  none-left stands k after near = false_from_ne_true (stand_at xs ys k) (λ occurs.
      let d = k - place in
      let on : place + d ≡ k = omega (arith, after) in
      let later = (stand-reads xs ys k occurs).1 in
      let moved : (j : ℕ) → j < length ys → number_at xs (place + d + j) ≡ number_at ys j = λ j below. ap (λ n. number_at xs (n + j)) on ∙ later j below in
      is.least d (omega (arith, after)) (omega (arith, near, after)) (is.critical d (omega (arith, after)) (all_repeat d moved)))
    where
      all_repeat : (d : ℕ) → ((j : ℕ) → j < length ys → number_at xs (place + d + j) ≡ number_at ys j) → IsRepeat (number_at ys) (length ys) cut.critical d
      all_repeat d moved k before low high =
          let swap : place + d + k ≡ place + (k + d) = omega arith in
          sym (moved k (omega (arith, high))) ∙ ap (number_at xs) swap ∙ stands (k + d) low high

  -- so the needle's front stands a period later
  pub known-later : (turn : Bool) → cut.is_period ≡ turn → ((k : ℕ) → cut.critical ≤ k → k < length ys → number_at xs (place + k) ≡ number_at ys k)
      → (k : ℕ) → k < (if turn then length ys - cut.shift else 0) → number_at ys k ≡ number_at xs (place + cut.shift + k)
  known-later true e stands k below =
      let beyond = is.beyond e in
      let swap : place + (k + cut.shift) ≡ place + cut.shift + k = omega arith in
      is.periodic e k (omega (arith, below)) ∙ sym (stands (k + cut.shift) (omega (arith, beyond)) (omega (arith, below))) ∙ ap (number_at xs) swap
  known-later false e stands k never = absurd (omega (arith, never))

  -- what stands up to the end of the comparison, with what was known before
  pub stands-right : (known start same : ℕ) → start ≡ max cut.critical known → ((k : ℕ) → k < known → number_at ys k ≡ number_at xs (place + k))
      → ((k : ℕ) → k < same → number_at xs (place + start + k) ≡ number_at ys (start + k))
      → (k : ℕ) → cut.critical ≤ k → k < start + same → number_at xs (place + k) ≡ number_at ys k
  stands-right known start same is_start front here k low high = elim (cases_lt k start) [
    | inl before ↦ sym (front k (omega (arith, before, low, is_start)))
    | inr behind ↦ moved-place start k behind (here (k - start) (omega (arith, high, behind)))
  ]

  -- all stands where what lies before the critical place does
  pub stands-all : (known low : ℕ) → low ≡ min cut.critical known → ((k : ℕ) → k < known → number_at ys k ≡ number_at xs (place + k))
      → ((k : ℕ) → k < cut.critical - low → number_at xs (place + low + k) ≡ number_at ys (low + k))
      → ((k : ℕ) → cut.critical ≤ k → k < length ys → number_at xs (place + k) ≡ number_at ys k)
      → (k : ℕ) → k < length ys → number_at xs (place + k) ≡ number_at ys k
  stands-all known low is_low front left right k below = elim (cases_lt k cut.critical) [
    | inr behind ↦ right k behind below
    | inl before ↦ elim (cases_lt k low) [
      | inl early ↦ sym (front k (omega (arith, early, is_low)))
      | inr late ↦ moved-place low k late (left (k - low) (omega (arith, before, late)))
    ]
  ]
