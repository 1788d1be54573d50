-- `stable_len` gives the greatest stable place.
use Rattle.std.proofs.Common.{◌≡◌, ℕ, zero, suc, ◌≤◌, Bool, true, false, ◌||◌, ◌==◌, nat_lt, List, [], ◌∷◌, ◌++◌, ◌⊎◌, length, take, drop, if◌then◌else◌, refl, sym, ap, subst, ◌∙◌, arith, inl, inr, append_assoc, eq-eqb, eqb-true, lt-ltb}
use Rattle.std.proofs.lemmas.Bool.{cases_Bool}
use Rattle.std.proofs.lemmas.List.{take-append-drop}
use Rattle.nfg_text.specs.Graphemes.{graphemes_of, is_stable_pair, is_stable_after, stable_len, IsStableBetween, IsStableLen}
use Rattle.nfg_text.specs.Laws.{GraphemesAtStableLen, StableLenIsGreatest}
use Rattle.nfg_text.proofs.AtStable.{graphemes_at_stable}

or_second : (a b : Bool) → b ≡ true → (a || b) ≡ true
or_second true b h = refl
or_second false b h = h

-- a code point more in front changes nothing
stable-cons : (c d : ℕ) (ds y : List ℕ) → IsStableBetween (d ∷ ds) y → IsStableBetween (c ∷ d ∷ ds) y
stable-cons c d ds y (inl start) = cc
stable-cons c d ds y (inr (inl line)) = inr (inl (c ∷ line.0, ap (λ l. c ∷ l) line.1))
stable-cons c d ds y (inr (inr pair)) = inr (inr (c ∷ pair.0, pair.1, pair.2, pair.3, ap (λ l. c ∷ l) pair.4, pair.5, pair.6))

-- nor does one less
stable-tail : (c d : ℕ) (ds y : List ℕ) → IsStableBetween (c ∷ d ∷ ds) y → IsStableBetween (d ∷ ds) y
stable-tail c d ds y (inl start) = cc
stable-tail c d ds y (inr (inl line)) = by_front line.0 line.1
  where
    by_front : (front : List ℕ) → c ∷ d ∷ ds ≡ front ++ 0xA ∷ [] → IsStableBetween (d ∷ ds) y
    by_front [] e = cc
    by_front (f ∷ front) e = inr (inl (front, cc))
stable-tail c d ds y (inr (inr pair)) = by_front pair.0 pair.4
  where
    by_front : (front : List ℕ) → c ∷ d ∷ ds ≡ front ++ pair.1 ∷ [] → IsStableBetween (d ∷ ds) y
    by_front [] e = cc
    by_front (f ∷ front) e = inr (inr (front, pair.1, pair.2, pair.3, cc, pair.5, pair.6))

line_feed_is_stable : (c : ℕ) (rest : List ℕ) → c ≡ 0xA → is_stable_after c rest ≡ true
line_feed_is_stable c [] same = eq-eqb c 0xA same
line_feed_is_stable c (next ∷ rest) same = ap (λ b. b || is_stable_pair c next) (eq-eqb c 0xA same)

-- a place after one code point
stable_after : (c : ℕ) (rest : List ℕ) → IsStableBetween (c ∷ []) rest → is_stable_after c rest ≡ true
stable_after c rest (inl start) = cc
stable_after c rest (inr (inl line)) = by_front line.0 line.1
  where
    by_front : (front : List ℕ) → c ∷ [] ≡ front ++ 0xA ∷ [] → is_stable_after c rest ≡ true
    by_front [] e = line_feed_is_stable c rest cc
    by_front (f ∷ []) e = cc
    by_front (f ∷ g ∷ front) e = cc
stable_after c rest (inr (inr pair)) = by_front pair.0 pair.4
  where
    by_front : (front : List ℕ) → c ∷ [] ≡ front ++ pair.1 ∷ [] → is_stable_after c rest ≡ true
    by_front [] e =
        let same : c ≡ pair.1 = cc in
        subst (λ l. is_stable_after c l ≡ true) (sym pair.5)
        (or_second (c == 0xA) (is_stable_pair c pair.2) (ap (λ x. is_stable_pair x pair.2) same ∙ pair.6))
    by_front (f ∷ []) e = cc
    by_front (f ∷ g ∷ front) e = cc

-- the other way
between_from : (c : ℕ) (rest : List ℕ) → is_stable_after c rest ≡ true → IsStableBetween (c ∷ []) rest
between_from c [] h = inr (inl ([], ap (λ x. x ∷ []) (eqb-true c 0xA h)))
between_from c (next ∷ rest) h =
    elim (cases_Bool (c == 0xA)) [
      | inl line ↦ inr (inl ([], ap (λ x. x ∷ []) (eqb-true c 0xA line)))
      | inr other ↦ inr (inr ([], c, next, rest, refl, refl, sym (ap (λ b. b || is_stable_pair c next) other) ∙ h))
    ]

-- one step of `stable_len`
abbrev longer : Bool → ℕ → ℕ
longer is_longer len = if is_longer then suc len else 0

abbrev is_longer : ℕ → List ℕ → Bool
is_longer c rest = nat_lt 0 (stable_len rest) || is_stable_after c rest

longer_at : (c : ℕ) (rest : List ℕ) (b : Bool) → is_longer c rest ≡ b → stable_len (c ∷ rest) ≡ longer b (stable_len rest)
longer_at c rest b e = ap (λ x. longer x (stable_len rest)) e

module _ (c : ℕ) (rest : List ℕ) (tail : IsStableLen rest (stable_len rest)) where
  grown : is_longer c rest ≡ true → IsStableBetween (c ∷ take (stable_len rest) rest) (drop (stable_len rest) rest)
  grown test = by_len (stable_len rest) rest tail.within tail.stable test
    where
      by_len : (len : ℕ) (t : List ℕ) → len ≤ length t → IsStableBetween (take len t) (drop len t) → (nat_lt 0 len || is_stable_after c t) ≡ true → IsStableBetween (c ∷ take len t) (drop len t)
      by_len zero t within stable h = between_from c t h
      by_len (suc len) [] within stable h = absurd (omega arith)
      by_len (suc len) (d ∷ ds) within stable h = stable-cons c d (take len ds) (drop len ds) stable

  no_less : (k : ℕ) → k ≤ length (c ∷ rest) → IsStableBetween (take k (c ∷ rest)) (drop k (c ∷ rest)) → (k ≡ 0) ⊎ ((is_longer c rest ≡ true) × (k ≤ suc (stable_len rest)))
  no_less zero within stable = inl refl
  no_less (suc zero) within stable = inr (or_second (nat_lt 0 (stable_len rest)) _ (stable_after c rest stable), omega arith)
  no_less (suc (suc k)) within stable =
      let low : suc k ≤ stable_len rest = tail.greatest (suc k) (omega arith) (shorter rest k (omega arith) stable) in
      inr (ap (λ b. b || is_stable_after c rest) (lt-ltb 0 (stable_len rest) (omega arith)), omega arith)
    where
      shorter : (t : List ℕ) (j : ℕ) → suc j ≤ length t → IsStableBetween (c ∷ take (suc j) t) (drop (suc j) t) → IsStableBetween (take (suc j) t) (drop (suc j) t)
      shorter [] j within stable = absurd (omega arith)
      shorter (d ∷ ds) j within stable = stable-tail c d (take j ds) (drop j ds) stable

pub stable_len_is_greatest : StableLenIsGreatest
stable_len_is_greatest [] = record { within = omega arith; stable = inl refl; greatest = λ k within _. within }
stable_len_is_greatest (c ∷ rest) =
    let tail = stable_len_is_greatest rest in
    elim (cases_Bool (is_longer c rest)) [
      | inl more_len ↦
          subst (IsStableLen (c ∷ rest)) (sym (longer_at c rest true more_len))
          (record {
            within = let below = tail.within in omega arith;
            stable = grown c rest tail more_len;
            greatest = λ k within stable. elim (no_less c rest tail k within stable) [ inl none ↦ omega arith | inr more ↦ more.1 ];
          })
      | inr none ↦
          subst (IsStableLen (c ∷ rest)) (sym (longer_at c rest false none))
          (record {
            within = omega arith;
            stable = inl refl;
            greatest = λ k within stable.
                elim (no_less c rest tail k within stable) [ inl start ↦ omega arith | inr more ↦ let clash = sym more.0 ∙ none in cc ];
          })
    ]

pub graphemes_at_stable_len : GraphemesAtStableLen
graphemes_at_stable_len t u =
    let len = stable_len t in
    ap (λ l. graphemes_of (l ++ u)) (sym (take-append-drop len t)) ∙ ap graphemes_of (append_assoc (take len t) (drop len t) u)
    ∙ graphemes_at_stable (take len t) (drop len t) u (stable_len_is_greatest t).stable
