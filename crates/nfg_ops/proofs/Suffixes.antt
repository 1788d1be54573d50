-- The scan for the greatest suffix of a list.
use Rattle.std.proofs.Common.{◌≡◌, inl, inr, ℕ, zero, suc, ◌+◌, ◌-◌, ◌<◌, ◌≤◌, ℤ, refl, sym, ap, subst, ◌∙◌, arith}
use Rattle.std.proofs.lemmas.Bool.{cases_lt, cases_order, cases_eq}
use Rattle.nfg_ops.specs.Cuts.{IsBeaten, IsBeatenWithin, IsScan, IsGreatest}

module _ (lt : ℤ → ℤ → Type 0) (irrefl : (a : ℤ) → lt a a → ⊥) (trans : (a b c : ℤ) → lt a b → lt b c → lt a c) (x : ℕ → ℤ) where
  abbrev lesser : ℕ → ℕ → Type 0
  lesser i j = lt (x i) (x j)

  -- a lesser value stays one where both are replaced by equal ones
  moved : (a b c d : ℤ) → a ≡ c → b ≡ d → lt a b → lt c d
  moved a b c d first second less = subst (lt c) second (subst (λ v. lt v b) first less)

  same_place : (i j k l : ℕ) → i ≡ k → j ≡ l → x i ≡ x j → x k ≡ x l
  same_place i j k l first second e = ap x (sym first) ∙ e ∙ ap x second

  beaten-trans : (m s p c : ℕ) → IsBeaten lt x m s p → IsBeaten lt x m p c → IsBeaten lt x m s c
  beaten-trans m s p c first second = elim (cases_order first.at second.at) [
    | inl equal ↦ record {
      at = first.at;
      same = λ t below. first.same t below ∙ second.same t (omega (arith, below, equal));
      room = omega (arith, second.room, equal);
      ends = elim first.ends [
        | inl end ↦ inl end
        | inr less ↦ elim second.ends [
          | inl end ↦ absurd (omega (arith, end, first.room, equal))
          | inr more ↦ inr (less.0, trans _ _ _ less.1 (subst (λ n. lesser (p + n) (c + n)) (sym equal) more.1))
        ]
      ];
    }
    | inr differ ↦ elim differ [
      | inl below ↦ record {
        at = first.at;
        same = λ t l. first.same t l ∙ second.same t (omega (arith, l, below));
        room = omega (arith, second.room, below);
        ends = elim first.ends [
          | inl end ↦ inl end
          | inr less ↦ inr (less.0, moved _ _ _ _ refl (second.same first.at below) less.1)
        ];
      }
      | inr above ↦ record {
        at = second.at;
        same = λ t l. first.same t (omega (arith, l, above)) ∙ second.same t l;
        room = second.room;
        ends = elim second.ends [
          | inl end ↦ absurd (omega (arith, end, first.room, above))
          | inr more ↦ inr (high_end first second.at above, moved _ _ _ _ (sym (first.same second.at above)) refl more.1)
        ];
      }
    ]
  ]
    where
      high_end : (first : IsBeaten lt x m s p) (n : ℕ) → n < first.at → s + n < m
      high_end first n above = elim first.ends [
        | inl end ↦ omega (arith, end, above)
        | inr less ↦ omega (arith, less.0, above)
      ]

  within-beaten : (m bound s c : ℕ) → c < s → bound ≤ m → IsBeatenWithin lt x bound s c → IsBeaten lt x m s c
  within-beaten m bound s c later high is = record {
    at = is.at;
    same = is.same;
    room = omega (arith, is.inside, later, high);
    ends = inr (omega (arith, is.inside, high), is.less);
  }

  within-trans : (bound other s p c : ℕ) → bound ≤ other → c < p → IsBeatenWithin lt x other s p → IsBeatenWithin lt x bound p c → p < s
      → IsBeatenWithin lt x other s c
  within-trans bound other s p c high later first second before = elim (cases_order first.at second.at) [
    | inl equal ↦ record {
      at = first.at;
      same = λ t below. first.same t below ∙ second.same t (omega (arith, below, equal));
      inside = first.inside;
      less = trans _ _ _ first.less (subst (λ n. lesser (p + n) (c + n)) (sym equal) second.less);
    }
    | inr differ ↦ elim differ [
      | inl below ↦ record {
        at = first.at;
        same = λ t l. first.same t l ∙ second.same t (omega (arith, l, below));
        inside = first.inside;
        less = moved _ _ _ _ refl (second.same first.at below) first.less;
      }
      | inr above ↦ record {
        at = second.at;
        same = λ t l. first.same t (omega (arith, l, above)) ∙ second.same t l;
        inside = omega (arith, first.inside, above);
        less = moved _ _ _ _ (sym (first.same second.at above)) refl second.less;
      }
    ]
  ]

  within-wider : (bound other s c : ℕ) → bound ≤ other → IsBeatenWithin lt x bound s c → IsBeatenWithin lt x other s c
  within-wider bound other s c high is = record { at = is.at; same = is.same; inside = omega (arith, is.inside, high); less = is.less }

  module _ (m place candidate offset : ℕ) (is : IsScan lt x m (record { place = place; candidate = candidate; offset = offset })) where
    -- a suffix that begins in what was seen the same is what begins as much earlier, as far as that was seen
    shifted : (s : ℕ) → candidate ≤ s → s ≤ candidate + offset → (t : ℕ) → t < candidate + offset - s → x (s + t) ≡ x (s - (candidate - place) + t)
    shifted s low high t below =
        let ordered = is.ordered in
        same_place (candidate + (s - candidate + t)) (place + (s - candidate + t)) (s + t) (s - (candidate - place) + t) (omega (arith, low)) (omega (arith, low, ordered))
        (sym (is.same (s - candidate + t) (omega (arith, below, low))))

    -- the candidate turns out less
    skipped : lt (x (candidate + offset)) (x (place + offset)) → (fuel s : ℕ) → s < fuel → place < s → s < candidate + offset + 1
        → IsBeatenWithin lt x (candidate + offset + 1) s place
    skipped less zero s never later high = absurd (omega (arith, never))
    skipped less (suc fuel) s enough later high = elim (cases_lt s candidate) [
      | inl early ↦ within-wider candidate (candidate + offset + 1) s place (omega arith) (is.between s later early)
      | inr late ↦
          let ordered = is.ordered in
          let q = s - (candidate - place) in
          let here : IsBeatenWithin lt x (candidate + offset + 1) s q = record {
            at = candidate + offset - s;
            same = shifted s late (omega (arith, high));
            inside = omega (arith, high, late);
            less = subst (λ i. lesser i (q + (candidate + offset - s))) (at_end s high) (subst (λ j. lesser (candidate + offset) j) (at_place s late high) less);
          } in
          elim (cases_eq candidate s) [
            | inl first ↦
                let start : q ≡ place = omega (arith, first, ordered) in
                subst (λ p. IsBeatenWithin lt x (candidate + offset + 1) s p) start here
            | inr other ↦
                let further : place < q = omega (arith, late, other, ordered) in
                within-trans (candidate + offset + 1) (candidate + offset + 1) s q place (omega arith) further here
                (skipped less fuel q (omega (arith, enough, ordered, late)) further (omega (arith, high, ordered, late))) (omega (arith, ordered, late))
          ]
    ]
      where
        at_end : (s : ℕ) → s < candidate + offset + 1 → candidate + offset ≡ s + (candidate + offset - s)
        at_end s high = omega (arith, high)

        at_place : (s : ℕ) → candidate ≤ s → s < candidate + offset + 1 → place + offset ≡ s - (candidate - place) + (candidate + offset - s)
        at_place s late high = let ordered = is.ordered in omega (arith, late, high, ordered)

    -- the list ends while both are the same
    ended : candidate + offset ≡ m → (fuel s : ℕ) → s < fuel → place < s → s < m → IsBeaten lt x m s place
    ended end zero s never later high = absurd (omega (arith, never))
    ended end (suc fuel) s enough later high = elim (cases_lt s candidate) [
      | inl early ↦ let within = is.within in within-beaten m candidate s place later (omega (arith, within)) (is.between s later early)
      | inr late ↦
          let ordered = is.ordered in
          let q = s - (candidate - place) in
          let here : IsBeaten lt x m s q = record {
            at = candidate + offset - s;
            same = shifted s late (omega (arith, high, end));
            room = omega (arith, high, late, end, ordered);
            ends = inl (omega (arith, high, end));
          } in
          elim (cases_eq candidate s) [
            | inl first ↦
                let start : q ≡ place = omega (arith, first, ordered) in
                subst (IsBeaten lt x m s) start here
            | inr other ↦
                let further : place < q = omega (arith, late, other, ordered) in
                beaten-trans m s q place here (ended end fuel q (omega (arith, enough, ordered, late)) further (omega (arith, high, ordered, late)))
          ]
    ]

    -- the candidate turns out greater
    beats : candidate + offset < m → lt (x (place + offset)) (x (candidate + offset)) → (s : ℕ) → s < candidate → IsBeaten lt x m s candidate
    beats inside more s below =
        let ordered = is.ordered in
        let within = is.within in
        let old : IsBeaten lt x m place candidate = record { at = offset; same = is.same; room = inside; ends = inr (omega (arith, inside, ordered), more) } in
        elim (cases_order s place) [
          | inl equal ↦ subst (λ p. IsBeaten lt x m p candidate) (sym equal) old
          | inr differ ↦ elim differ [
            | inl before ↦ beaten-trans m s place candidate (is.before s before) old
            | inr after ↦ beaten-trans m s place candidate (within-beaten m candidate s place after (omega (arith, within)) (is.between s after below)) old
          ]
        ]

    pub scan-equal : candidate + offset < m → x (place + offset) ≡ x (candidate + offset) → IsScan lt x m (record { place = place; candidate = candidate; offset = offset + 1 })
    scan-equal inside equal = record {
      ordered = is.ordered;
      within = omega (arith, inside);
      same = λ t below. elim (cases_eq t offset) [
        | inl last ↦ subst (λ n. x (place + n) ≡ x (candidate + n)) (sym last) equal
        | inr differ ↦ is.same t (omega (arith, below, differ))
      ];
      before = is.before;
      between = is.between;
    }

    pub scan-less : candidate + offset < m → lt (x (candidate + offset)) (x (place + offset))
        → IsScan lt x m (record { place = place; candidate = candidate + offset + 1; offset = 0 })
    scan-less inside less = let ordered = is.ordered in record {
      ordered = omega (arith, ordered);
      within = omega (arith, inside);
      same = λ t none. absurd (omega (arith, none));
      before = is.before;
      between = λ s later high. skipped less (suc s) s (omega arith) later high;
    }

    pub scan-greater : candidate + offset < m → lt (x (place + offset)) (x (candidate + offset)) → offset < candidate - place
        → IsScan lt x m (record { place = candidate; candidate = candidate + 1; offset = 0 })
    scan-greater inside more few = record {
      ordered = omega arith;
      within = omega (arith, inside);
      same = λ t none. absurd (omega (arith, none));
      before = beats inside more;
      between = λ s later high. absurd (omega (arith, later, high));
    }

    pub scan-round : candidate + offset < m → lt (x (place + offset)) (x (candidate + offset)) → candidate - place ≤ offset
        → IsScan lt x m (record { place = candidate; candidate = candidate + (candidate - place); offset = offset - (candidate - place) })
    scan-round inside more many = let ordered = is.ordered in record {
      ordered = omega (arith, ordered);
      within = omega (arith, inside, many, ordered);
      same = λ t below. same_place (place + (candidate - place + t)) (candidate + (candidate - place + t)) (candidate + t) (candidate + (candidate - place) + t)
          (omega (arith, ordered)) (omega arith) (is.same (candidate - place + t) (omega (arith, below, many)));
      before = beats inside more;
      between = λ s later high. round s later high;
    }
      where
        round : (s : ℕ) → candidate < s → s < candidate + (candidate - place) → IsBeatenWithin lt x (candidate + (candidate - place)) s candidate
        round s later high =
            let ordered = is.ordered in
            let q = s - (candidate - place) in
            let old : IsBeatenWithin lt x candidate q place = is.between q (omega (arith, later, ordered)) (omega (arith, high, ordered)) in
            let near = old.inside in
            let up : (t : ℕ) → t < old.at + 1 → x (q + t) ≡ x (s + t) = λ t below. same_place (place + (q - place + t)) (candidate + (q - place + t)) (q + t) (s + t)
            (omega (arith, later, ordered)) (omega (arith, later, ordered)) (is.same (q - place + t) (omega (arith, below, near, many, later, ordered))) in
            let front : (t : ℕ) → t < old.at + 1 → x (place + t) ≡ x (candidate + t) = λ t below. is.same t (omega (arith, below, near, many, later, ordered)) in
            record {
              at = old.at;
              same = λ t below. sym (up t (omega (arith, below))) ∙ old.same t below ∙ front t (omega (arith, below));
              inside = omega (arith, near, later, ordered);
              less = moved _ _ _ _ (up old.at (omega arith)) (front old.at (omega arith)) old.less;
            }

    pub scan-end : m ≤ candidate + offset → IsGreatest lt x m (record { place = place; period = candidate - place })
    scan-end over =
        let ordered = is.ordered in
        let within = is.within in
        let end : candidate + offset ≡ m = omega (arith, over, within) in
        record {
          greatest = λ s below differ. elim (cases_order s place) [
            | inl equal ↦ absurd (differ equal)
            | inr other ↦ elim other [
              | inl before ↦ is.before s before
              | inr after ↦ ended end (suc s) s (omega arith) after below
            ]
          ];
          some = omega (arith, ordered);
          within = omega (arith, ordered, within);
          periodic = λ k low high. same_place (place + (k - place)) (candidate + (k - place)) k (k + (candidate - place)) (omega (arith, low)) (omega (arith, low, ordered))
              (is.same (k - place) (omega (arith, high, low, end, ordered)));
          least = λ d some few period.
              let here = is.between (place + d) (omega (arith, some)) (omega (arith, few, ordered)) in
              let inside = here.inside in
              let equal = period (place + here.at) (omega arith) (omega (arith, inside, within)) in
              irrefl _ (moved _ _ _ _ (ap x (swap here.at d)) (equal) here.less);
        }
      where
        swap : (a d : ℕ) → place + d + a ≡ place + a + d
        swap a d = omega arith

  pub scan-start : (m : ℕ) → 0 < m → IsScan lt x m (record { place = 0; candidate = 1; offset = 0 })
  scan-start m some = record {
    ordered = omega arith;
    within = omega (arith, some);
    same = λ t none. absurd (omega (arith, none));
    before = λ s none. absurd (omega (arith, none));
    between = λ s later high. absurd (omega (arith, later, high));
  }
