-- The later of the greatest suffixes by two opposite orders begins at a critical place (Crochemore and Perrin, 1991).
use Rattle.std.proofs.Common.{◌≡◌, ◌≢◌, inl, inr, ℕ, ◌+◌, ◌-◌, ◌*◌, ◌<◌, ◌≤◌, ℤ, true, false, max, refl, sym, ap, subst, ◌∙◌, arith}
use Rattle.std.proofs.lemmas.Bool.{cases_lt, cases_order, false≢true}
use Rattle.nfg_ops.specs.Cuts.{IsBeaten, IsGreatest, IsPeriod, IsRepeat, IsCritical, IsCut, IsCutPlace}
use Rattle.nfg_ops.specs.declared.suffix.Suffix.{Suffix}

module _ (lt gt : ℤ → ℤ → Type 0) (irrefl : (a : ℤ) → lt a a → ⊥) (trans : (a b c : ℤ) → lt a b → lt b c → lt a c)
    (turned : (a b : ℤ) → gt a b → lt b a) (x : ℕ → ℤ) (m c other : ℕ) (inside : c < m) (later : other ≤ c)
    (greatest : (s : ℕ) → s < m → s ≢ c → IsBeaten lt x m s c) (other_greatest : (s : ℕ) → s < m → s ≢ other → IsBeaten gt x m s other) where
  both : (a b : ℤ) → lt a b → lt b a → ⊥
  both a b first second = irrefl a (trans a b a first second)

  same_place : (i j k l : ℕ) → i ≡ k → j ≡ l → x i ≡ x j → x k ≡ x l
  same_place i j k l first second e = ap x (sym first) ∙ e ∙ ap x second

  less_place : (i j k l : ℕ) → i ≡ k → j ≡ l → lt (x i) (x j) → lt (x k) (x l)
  less_place i j k l first second e = subst (λ n. lt (x n) (x l)) first (subst (λ n. lt (x i) (x n)) second e)

  -- equal up to a place where the first is less, and the other way round: not both
  apart : (i j : ℤ) → i ≡ j → lt i j → ⊥
  apart i j e less = irrefl j (subst (λ v. lt v j) e less)

  -- no repeat is as short as what lies before the place
  pub no_short_repeat : (d : ℕ) → 0 < d → d ≤ c → IsRepeat x m c d → ⊥
  no_short_repeat d some short repeats =
      let first = greatest (c - d) (omega (arith, inside)) (λ e. absurd (omega (arith, e, some, short))) in
      let room = first.room in
      elim first.ends [
        | inl end ↦ absurd (omega (arith, end, room, some, short))
        | inr less ↦ elim (cases_lt first.at d) [
          | inl near ↦ apart _ _
              (same_place (c - d + first.at) (c - d + first.at + d) (c - d + first.at) (c + first.at) refl (omega (arith, short))
              (repeats (c - d + first.at) (omega (arith, near, short)) (omega (arith, short)) (omega (arith, room, short))))
              less.1
          | inr far ↦ behind d some short first far less.1
        ]
      ]
    where
      behind : (d : ℕ) → 0 < d → d ≤ c → (first : IsBeaten lt x m (c - d) c) → d ≤ first.at → lt (x (c - d + first.at)) (x (c + first.at)) → ⊥
      behind d some short first far less =
          let room = first.room in
          let n = first.at - d in
          let second = greatest (c + d) (omega (arith, room, far)) (λ e. absurd (omega (arith, e, some))) in
          let down : lt (x (c + n)) (x (c + d + n)) = less_place (c - d + first.at) (c + first.at) (c + n) (c + d + n) (omega (arith, far, short)) (omega (arith, far)) less in
          let before : (t : ℕ) → t < n → x (c + t) ≡ x (c + d + t) = λ t below.
          same_place (c - d + (d + t)) (c + (d + t)) (c + t) (c + d + t) (omega (arith, short)) (omega arith) (first.same (d + t) (omega (arith, below))) in
          elim (cases_order second.at n) [
            | inl equal ↦ elim second.ends [
              | inl end ↦ absurd (omega (arith, end, equal, room, far))
              | inr up ↦ both _ _ down (less_place (c + d + second.at) (c + second.at) (c + d + n) (c + n) (omega (arith, equal)) (omega (arith, equal)) up.1)
            ]
            | inr differ ↦ elim differ [
              | inl early ↦ elim second.ends [
                | inl end ↦ absurd (omega (arith, end, early, room, far))
                | inr up ↦ apart _ _ (sym (before second.at early)) up.1
              ]
              | inr late ↦ apart _ _ (sym (second.same n late)) down
            ]
          ]

  -- so each period is longer
  pub period-beyond : (d : ℕ) → 0 < d → IsPeriod x m d → c < d
  period-beyond d some period = elim (cases_lt c d) [
    | inl beyond ↦ beyond
    | inr short ↦ absurd (no_short_repeat d some short (λ k below low high. period k high))
  ]

  -- and each longer repeat is a period
  long_repeat : (d : ℕ) → c < d → IsRepeat x m c d → (k : ℕ) → c ≤ k → k + d < m → x k ≡ x (k + d)
  long_repeat d long repeats k low high =
      let first = greatest (c + d) (omega (arith, low, high)) (λ e. absurd (omega (arith, e, long))) in
      let second = other_greatest (other + d) (omega (arith, low, high, later)) (λ e. absurd (omega (arith, e, long))) in
      let n = first.at in
      let across : (t : ℕ) → t < c - other → x (other + d + t) ≡ x (other + t) = λ t below.
      same_place (other + t + d) (other + t) (other + d + t) (other + t) (omega arith) refl
      (sym (repeats (other + t) (omega (arith, below)) (omega (arith, long)) (omega (arith, below, low, high)))) in
      let on : (t : ℕ) → t < c - other + n → x (other + d + t) ≡ x (other + t) = λ t below. elim (cases_lt t (c - other)) [
        | inl left ↦ across t left
        | inr right ↦ same_place (c + d + (t - (c - other))) (c + (t - (c - other))) (other + d + t) (other + t) (omega (arith, right, later)) (omega (arith, right, later))
            (first.same (t - (c - other)) (omega (arith, below, right)))
      ] in
      elim first.ends [
        | inl end ↦ same_place (c + (k - c)) (c + d + (k - c)) k (k + d) (omega (arith, low)) (omega (arith, low))
            (sym (first.same (k - c) (omega (arith, end, low, high))))
        | inr less ↦ absurd (elim (cases_order second.at (c - other + n)) [
          | inl equal ↦ elim second.ends [
            | inl end ↦ absurd (omega (arith, end, equal, less.0, later))
            | inr up ↦ both _ _ less.1 (less_place (other + second.at) (other + d + second.at) (c + n) (c + d + n) (omega (arith, equal, later)) (omega (arith, equal, later)) (turned _ _ up.1))
          ]
          | inr differ ↦ elim differ [
            | inl early ↦ elim second.ends [
              | inl end ↦ absurd (omega (arith, end, early, less.0, later))
              | inr up ↦ apart _ _ (sym (on second.at early)) (turned _ _ up.1)
            ]
            | inr late ↦ apart _ _
                (same_place (other + d + (c - other + n)) (other + (c - other + n)) (c + d + n) (c + n) (omega (arith, later)) (omega (arith, later)) (second.same (c - other + n) late))
                less.1
          ]
        ])
      ]

  pub is-critical : IsCritical x m c
  is-critical d some repeats = elim (cases_lt c d) [
    | inr short ↦ absurd (no_short_repeat d some short repeats)
    | inl long ↦ λ k high. elim (cases_lt k c) [
      | inl before ↦ repeats k before (omega (arith, long)) high
      | inr behind ↦ long_repeat d long repeats k behind high
    ]
  ]

  pub cut-place : (period : ℕ) → IsGreatest lt x m (record { place = c; period = period }) → IsCutPlace x m (record { place = c; period = period })
  cut-place period is = record {
    below = inside;
    critical = is-critical;
    beyond = period-beyond;
    some = is.some;
    within = is.within;
    periodic = is.periodic;
    least = is.least;
  }

module _ (x : ℕ → ℤ) (m : ℕ) (suffix : Suffix) (is : IsCutPlace x m suffix) where
  swapped : (i j k l : ℕ) → i ≡ k → j ≡ l → x i ≡ x j → x k ≡ x l
  swapped i j k l first second e = ap x (sym first) ∙ e ∙ ap x second

  -- the period of the suffix is one of the whole list
  pub cut-periodic : ((k : ℕ) → k < suffix.place → x k ≡ x (k + suffix.period))
      → IsCut x m (record { critical = suffix.place; shift = suffix.period; is_period = true })
  cut-periodic front =
      let within = is.within in
      let whole : IsPeriod x m suffix.period = λ k high. elim (cases_lt k suffix.place) [
        | inl before ↦ front k before
        | inr behind ↦ is.periodic k behind high
      ] in
      record {
        below = is.below;
        critical = is.critical;
        some = is.some;
        within = omega (arith, within);
        least = λ d some few small. is.least d some few (λ k low high. small k high);
        periodic = λ e. whole;
        beyond = λ e. is.beyond suffix.period is.some whole;
      }

  -- it is none: then each period is more than half of what follows the place, and more than what lies before it
  pub cut-long : (at shift half : ℕ) → at < suffix.place → (x at ≡ x (at + suffix.period) → ⊥) → 2 * half ≤ m - suffix.place → shift ≡ max (suffix.place + 1) half
      → IsCut x m (record { critical = suffix.place; shift = shift; is_period = false })
  cut-long at shift half before differs few_half most =
      let c = suffix.place in
      let period = suffix.period in
      let inside = is.below in
      record {
        below = inside;
        critical = is.critical;
        some = omega (arith, most);
        within = omega (arith, most, inside, few_half);
        least = λ d positive few small.
            let beyond = is.beyond d positive small in
            elim (cases_lt d period) [
              | inl less ↦ is.least d positive less (λ k low high. small k high)
              | inr more ↦ differs
                  (small at (omega (arith, before, few, most, beyond, few_half))
                  ∙ is.periodic (at + d) (omega (arith, beyond)) (omega (arith, before, few, most, beyond, more, few_half))
                  ∙ swapped (at + period + d) (at + period) (at + d + period) (at + period) (omega arith) refl
                  (sym (small (at + period) (omega (arith, before, few, most, beyond, more, few_half)))))
            ];
        periodic = λ never. absurd (false≢true never);
        beyond = λ never. absurd (false≢true never);
      }
