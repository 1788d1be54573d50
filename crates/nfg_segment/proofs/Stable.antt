-- The graphemes before each stable place have been given.
use Rattle.std.proofs.Common.{◌≡◌, ℕ, ◌+◌, ◌≤◌, ◌<◌, Bool, true, false, not, ◌&&◌, ◌==◌, nat_lt, ◌⊎◌, inl, inr, List, [], ◌∷◌, ◌++◌, length, take, drop, refl, sym, ap, ap₂, subst, ◌∙◌, arith, append_assoc, append-nil, eq-eqb}
use Rattle.std.proofs.lemmas.Bool.{and_parts, and_from, ltb-true}
use Rattle.std.proofs.lemmas.List.{length-append, take-append-drop}
use Rattle.nfg_text.specs.Forms.{nfc}
use Rattle.nfg_text.specs.Graphemes.{clusters, graphemes_of, starts_safely, is_yes, is_stable_pair, IsStableBetween, stable_len}
use Rattle.nfg_text.proofs.AtBreak.{clusters-nil}
use Rattle.nfg_text.proofs.Proved.{nfc-nil, nfc_is_some, graphemes_at_stable, stable_len_is_greatest, ascii_stands_alone}
use Rattle.nfg_segment.specs.Follows.{StableAreOut}
use Rattle.nfg_segment.specs.Held.{none_safe}
use Rattle.nfg_segment.proofs.OneCluster.{clusters_some}

pub graphemes-nil : graphemes_of [] ≡ []
graphemes-nil = ap clusters nfc-nil ∙ clusters-nil

-- at a stable place the graphemes are those of both parts
parts : (x y : List ℕ) → IsStableBetween x y → graphemes_of (x ++ y) ≡ graphemes_of x ++ graphemes_of y
parts x y stable =
    ap (λ l. graphemes_of (x ++ l)) (sym (append-nil y)) ∙ graphemes_at_stable x y [] stable ∙ ap (λ l. graphemes_of x ++ graphemes_of l) (append-nil y)

-- a text that is not empty has a grapheme
pub graphemes_some : (c : ℕ) (cs : List ℕ) → 1 ≤ length (graphemes_of (c ∷ cs))
graphemes_some c cs = by (nfc (c ∷ cs)) refl
  where
    by : (form : List ℕ) → nfc (c ∷ cs) ≡ form → 1 ≤ length (clusters form)
    by [] e = absurd (nfc_is_some c cs e)
    by (x ∷ xs) e = clusters_some x xs

-- where all graphemes have been given
pub stable-all : (t : List ℕ) (given : List (List ℕ)) → length (graphemes_of t) ≤ length given → StableAreOut t given
stable-all t given all x y e stable =
    let whole = ap length (ap graphemes_of e ∙ parts x y stable) in
    omega (arith, all, whole, length-append (graphemes_of x) (graphemes_of y))

-- where all but one have been given, and the text does not end in a line feed
pub stable-but_one : (t : List ℕ) (given : List (List ℕ)) → length (graphemes_of t) ≤ length given + 1 → ((front : List ℕ) → t ≡ front ++ 0xA ∷ [] → ⊥) → StableAreOut t given
stable-but_one t given all no_line x [] e stable =
    elim stable [
      | inl none ↦ subst (λ l. length (graphemes_of l) ≤ length given) (sym none) (omega (arith, ap length graphemes-nil))
      | inr (inl line) ↦ absurd (no_line line.0 (e ∙ append-nil x ∙ line.1))
      | inr (inr pair) ↦ let clash = pair.5 in cc
    ]
stable-but_one t given all no_line x (b ∷ back) e stable =
    let whole = ap length (ap graphemes_of e ∙ parts x (b ∷ back) stable) in
    omega (arith, all, whole, length-append (graphemes_of x) (graphemes_of (b ∷ back)), graphemes_some b back)

-- what was given of a text, in code points
pub stable-len : (t : List ℕ) (given : List (List ℕ)) → StableAreOut t given → length (graphemes_of (take (stable_len t) t)) ≤ length given
stable-len t given stable =
    let at = stable_len t in stable (take at t) (drop at t) (sym (take-append-drop at t)) (stable_len_is_greatest t).stable

-- ---- behind the last code point that starts safely no place is stable

pub ascii_safe : (c : ℕ) → c < 0x80 → starts_safely c ≡ true
ascii_safe c low = let a = ascii_stands_alone c low in and_from _ _ (eq-eqb _ 0 a.starter) (ap is_yes a.passes)

unsafe_high : (c : ℕ) → starts_safely c ≡ false → c < 0x80 → ⊥
unsafe_high c plain low = let clash = sym plain ∙ ascii_safe c low in cc

pair_low : (a b : ℕ) → is_stable_pair a b ≡ true → b < 0x80
pair_low a b pair =
    let both = and_parts (nat_lt a 0x80 && nat_lt b 0x80) (not ((a == 0xD) && (b == 0xA))) pair in
    ltb-true b 0x80 (and_parts (nat_lt a 0x80) (nat_lt b 0x80) both.0).1

-- how a list with one element more can be parted
abbrev Split : List ℕ → ℕ → List ℕ → List ℕ → Type 0
Split xs c x y = ((y ≡ []) × (x ≡ xs ++ c ∷ [])) ⊎ ((z : List ℕ) × (y ≡ z ++ c ∷ []) × (xs ≡ x ++ z))

split : (xs : List ℕ) (c : ℕ) (x y : List ℕ) → xs ++ c ∷ [] ≡ x ++ y → Split xs c x y
split xs c [] y e = inr (xs, sym e, refl)
split [] c (a ∷ x) [] e = inl (refl, sym (e ∙ append-nil (a ∷ x)))
split [] c (a ∷ []) (b ∷ y) e = cc
split [] c (a ∷ (d ∷ x)) (b ∷ y) e = cc
split (f ∷ xs) c (a ∷ x) y e =
    let head : f ≡ a = cc in
    let rest : xs ++ c ∷ [] ≡ x ++ y = cc in
    elim (split xs c x y rest) [
      | inl whole ↦ inl (whole.0, ap₂ ◌∷◌ (sym head) whole.1)
      | inr part ↦ inr (part.0, part.1, ap₂ ◌∷◌ head part.2)
    ]

last-same : (a b : List ℕ) (c d : ℕ) → a ++ c ∷ [] ≡ b ++ d ∷ [] → c ≡ d
last-same [] [] c d e = cc
last-same [] (y ∷ []) c d e = cc
last-same [] (y ∷ (z ∷ b)) c d e = cc
last-same (x ∷ []) [] c d e = cc
last-same (x ∷ (z ∷ a)) [] c d e = cc
last-same (x ∷ a) (y ∷ b) c d e = last-same a b c d cc

-- a line feed is the last code point of the text only if it is the last that was added
pub no_line : (fed : List ℕ) (c : ℕ) → (c ≡ 0xA → ⊥) → (front : List ℕ) → fed ++ c ∷ [] ≡ front ++ 0xA ∷ [] → ⊥
no_line fed c other front e = other (last-same fed front c 0xA e)

stable-push : (fed : List ℕ) (c : ℕ) (given : List (List ℕ)) → starts_safely c ≡ false → StableAreOut fed given → StableAreOut (fed ++ c ∷ []) given
stable-push fed c given plain old x y e stable =
    elim (split fed c x y e) [
      | inl whole ↦
          elim stable [
            | inl none ↦ subst (λ l. length (graphemes_of l) ≤ length given) (sym none) (omega (arith, ap length graphemes-nil))
            | inr (inl line) ↦ absurd (unsafe_high c plain (let same : c ≡ 0xA = last-same fed line.0 c 0xA (sym whole.1 ∙ line.1) in omega (arith, same)))
            | inr (inr pair) ↦ let clash = sym whole.0 ∙ pair.5 in cc
          ]
      | inr part ↦
          elim stable [
            | inl none ↦ old x part.0 part.2 (inl none)
            | inr (inl line) ↦ old x part.0 part.2 (inr (inl line))
            | inr (inr pair) ↦ between part.0 part.2 pair.0 pair.1 pair.2 pair.3 pair.4 (sym part.1 ∙ pair.5) pair.6
          ]
    ]
  where
    between : (z : List ℕ) → fed ≡ x ++ z → (front : List ℕ) (a b : ℕ) (back : List ℕ) → x ≡ front ++ a ∷ [] → z ++ c ∷ [] ≡ b ∷ back → is_stable_pair a b ≡ true
        → length (graphemes_of x) ≤ length given
    between [] f front a b back at s pair = let same : c ≡ b = cc in absurd (unsafe_high c plain (omega (arith, same, pair_low a b pair)))
    between (d ∷ z) f front a b back at s pair =
        let same : b ≡ d = cc in old x (d ∷ z) f (inr (inr (front, a, d, z, at, refl, subst (λ q. is_stable_pair a q ≡ true) same pair)))

pub stable-hold : (fed text : List ℕ) (given : List (List ℕ)) → none_safe text ≡ true → StableAreOut fed given → StableAreOut (fed ++ text) given
stable-hold fed [] given none stable = subst (λ l. StableAreOut l given) (sym (append-nil fed)) stable
stable-hold fed (c ∷ text) given none stable =
    let parted = and_parts (not (starts_safely c)) (none_safe text) none in
    subst (λ l. StableAreOut l given) (append_assoc fed (c ∷ []) text)
    (stable-hold (fed ++ c ∷ []) text given parted.1 (stable-push fed c given (not_true (starts_safely c) parted.0) stable))
  where
    not_true : (b : Bool) → not b ≡ true → b ≡ false
    not_true false h = refl
    not_true true h = cc
