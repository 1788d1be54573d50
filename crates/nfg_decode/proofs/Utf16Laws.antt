-- UTF-16 in either byte order goes by one sequence after another.
use Rattle.std.proofs.Common.{◌≡◌, ℕ, ◌+◌, ◌<◌, ◌≤◌, ◌⊎◌, inl, inr, true, false, ◌&&◌, List, [], ◌∷◌, ◌++◌, length, get_or, set, take, drop, refl, sym, ap, ◌∙◌, arith}
use Rattle.std.proofs.lemmas.Bool.{cases_Bool, and_parts, or_parts}
use Rattle.std.proofs.lemmas.List.{append-nil, take_more_set}
use Rattle.std.specs.Prelude.{Ok, Err, Option, Some, None, MatchOption, IfSome, IfNone}
use Rattle.std.specs.Char.Utf16.{is_high_surrogate, is_low_surrogate, surrogate_pair_char}
use Rattle.nfg_decode.specs.declared.utf16.ByteOrder.{ByteOrder}
use Rattle.nfg_decode.specs.Decoded.{after_text}
use Rattle.nfg_decode.specs.Utf16.{unit, is_surrogate, decode_utf16}
use Rattle.nfg_decode.proofs.Stepwise.{First, empty, begins, none, IsStepwise, two_texts}

-- a unit that is no surrogate is its own code point, whatever follows
pub lone : (o : ByteOrder) (x y : ℕ) → is_surrogate (unit o x y) ≡ false
    → (ys : List ℕ) → decode_utf16 o (x ∷ y ∷ ys) ≡ after_text (unit o x y ∷ []) 2 (decode_utf16 o ys)
unfolding decode_utf16
lone o x y e [] = rw e refl
lone o x y e (z ∷ []) = rw e refl
lone o x y e (z ∷ w ∷ b) =
    let parts = or_parts (is_high_surrogate (unit o x y)) (is_low_surrogate (unit o x y)) e in rw (parts.0, parts.1) refl

pub paired : (o : ByteOrder) (x y z w : ℕ) → is_high_surrogate (unit o x y) ≡ true → is_low_surrogate (unit o z w) ≡ true
    → (ys : List ℕ) → decode_utf16 o (x ∷ y ∷ z ∷ w ∷ ys) ≡ after_text (surrogate_pair_char (unit o x y) (unit o z w) ∷ []) 4 (decode_utf16 o ys)
unfolding decode_utf16
paired o x y z w h l ys = rw (h, l) refl

-- a surrogate that is no high one before a low one begins no sequence
pub unpaired_alone : (o : ByteOrder) (x y : ℕ) → is_surrogate (unit o x y) ≡ true → decode_utf16 o (x ∷ y ∷ []) ≡ Err 0
unfolding decode_utf16
unpaired_alone o x y e = rw e refl

pub unpaired_odd : (o : ByteOrder) (x y z : ℕ) → is_surrogate (unit o x y) ≡ true → decode_utf16 o (x ∷ y ∷ z ∷ []) ≡ Err 0
unfolding decode_utf16
unpaired_odd o x y z e = rw e refl

pub unpaired : (o : ByteOrder) (x y z w : ℕ) (b : List ℕ) → is_surrogate (unit o x y) ≡ true
    → (is_high_surrogate (unit o x y) && is_low_surrogate (unit o z w)) ≡ false → decode_utf16 o (x ∷ y ∷ z ∷ w ∷ b) ≡ Err 0
unfolding decode_utf16
unpaired o x y z w b e p = rw (p, e) refl

begins_lone : (o : ByteOrder) (x y : ℕ) (b : List ℕ) → is_surrogate (unit o x y) ≡ false → First (decode_utf16 o) (x ∷ y ∷ b)
begins_lone o x y b e = begins (record {
  sequence = x ∷ y ∷ [];
  rest = b;
  code = unit o x y;
  split = refl;
  some = omega arith;
  goes = lone o x y e;
})

begins_surrogate : (o : ByteOrder) (x y : ℕ) (b : List ℕ) → is_surrogate (unit o x y) ≡ true → First (decode_utf16 o) (x ∷ y ∷ b)
begins_surrogate o x y [] e = none (unpaired_alone o x y e)
begins_surrogate o x y (z ∷ []) e = none (unpaired_odd o x y z e)
begins_surrogate o x y (z ∷ w ∷ b) e =
    elim (cases_Bool (is_high_surrogate (unit o x y) && is_low_surrogate (unit o z w))) [
      | inl pair ↦ (
          let parts = and_parts (is_high_surrogate (unit o x y)) (is_low_surrogate (unit o z w)) pair in
          begins (record {
            sequence = x ∷ y ∷ z ∷ w ∷ [];
            rest = b;
            code = surrogate_pair_char (unit o x y) (unit o z w);
            split = refl;
            some = omega arith;
            goes = paired o x y z w parts.0 parts.1;
          }))
      | inr apart ↦ none (unpaired o x y z w b e apart)
    ]

utf16_first : (o : ByteOrder) (b : List ℕ) → First (decode_utf16 o) b
unfolding decode_utf16
utf16_first o [] = empty refl
utf16_first o (x ∷ []) = none refl
utf16_first o (x ∷ y ∷ b) =
    elim (cases_Bool (is_surrogate (unit o x y))) [
      | inl e ↦ begins_surrogate o x y b e
      | inr e ↦ begins_lone o x y b e
    ]

pub utf16_stepwise : (o : ByteOrder) → IsStepwise (decode_utf16 o)
unfolding decode_utf16
utf16_stepwise o = record { nothing = refl; first = utf16_first o }

-- the same by index, as code reads a slice
module _ (o : ByteOrder) where
  pub pair_at : (b : List ℕ) (u v : ℕ) → 4 ≤ length b → u ≡ unit o (get_or b 0 0) (get_or b 1 0) → v ≡ unit o (get_or b 2 0) (get_or b 3 0)
      → (is_high_surrogate u && is_low_surrogate v) ≡ true
      → (ys : List ℕ) → decode_utf16 o (take 4 b ++ ys) ≡ after_text (surrogate_pair_char u v ∷ []) 4 (decode_utf16 o ys)
  pair_at [] u v l e f p ys = absurd (omega arith)
  pair_at (x ∷ []) u v l e f p ys = absurd (omega arith)
  pair_at (x ∷ y ∷ []) u v l e f p ys = absurd (omega arith)
  pair_at (x ∷ y ∷ z ∷ []) u v l e f p ys = absurd (omega arith)
  pair_at (x ∷ y ∷ z ∷ w ∷ b) u v l e f p ys =
      let parts = and_parts (is_high_surrogate u) (is_low_surrogate v) p in
      let high : is_high_surrogate (unit o x y) ≡ true = ap is_high_surrogate (sym e) ∙ parts.0 in
      let low : is_low_surrogate (unit o z w) ≡ true = ap is_low_surrogate (sym f) ∙ parts.1 in
      paired o x y z w high low ys ∙ (λ i. after_text (surrogate_pair_char (sym e i) (sym f i) ∷ []) 4 (decode_utf16 o ys))

  pub lone_at : (b : List ℕ) (u c n : ℕ) → 2 ≤ length b → u ≡ unit o (get_or b 0 0) (get_or b 1 0) → is_surrogate u ≡ false → c ≡ u → n ≡ 2
      → (ys : List ℕ) → decode_utf16 o (take n b ++ ys) ≡ after_text (c ∷ []) n (decode_utf16 o ys)
  lone_at [] u c n l e s f g ys = absurd (omega arith)
  lone_at (x ∷ []) u c n l e s f g ys = absurd (omega arith)
  lone_at (x ∷ y ∷ b) u c n l e s f g ys =
      let no : is_surrogate (unit o x y) ≡ false = ap is_surrogate (sym e) ∙ s in
      ap (λ k. decode_utf16 o (take k (x ∷ y ∷ b) ++ ys)) g
      ∙ lone o x y no ys
      ∙ (λ i. after_text ((sym e ∙ sym f) i ∷ []) (sym g i) (decode_utf16 o ys))

  pub none_in_short : (b : List ℕ) → length b < 2 → (b ≡ []) ⊎ (decode_utf16 o b ≡ Err 0)
  unfolding decode_utf16
  none_in_short [] l = inl refl
  none_in_short (x ∷ []) l = inr refl
  none_in_short (x ∷ y ∷ b) l = absurd (omega arith)

  pub none_at_cut : (b : List ℕ) (u : ℕ) → 2 ≤ length b → length b < 4 → u ≡ unit o (get_or b 0 0) (get_or b 1 0) → is_surrogate u ≡ true → decode_utf16 o b ≡ Err 0
  none_at_cut [] u l m e s = absurd (omega arith)
  none_at_cut (x ∷ []) u l m e s = absurd (omega arith)
  none_at_cut (x ∷ y ∷ []) u l m e s = unpaired_alone o x y (ap is_surrogate (sym e) ∙ s)
  none_at_cut (x ∷ y ∷ z ∷ []) u l m e s = unpaired_odd o x y z (ap is_surrogate (sym e) ∙ s)
  none_at_cut (x ∷ y ∷ z ∷ w ∷ b) u l m e s = absurd (omega arith)

  pub none_apart : (b : List ℕ) (u v : ℕ) → 4 ≤ length b → u ≡ unit o (get_or b 0 0) (get_or b 1 0) → v ≡ unit o (get_or b 2 0) (get_or b 3 0)
      → (is_high_surrogate u && is_low_surrogate v) ≡ false → is_surrogate u ≡ true → decode_utf16 o b ≡ Err 0
  none_apart [] u v l e f p s = absurd (omega arith)
  none_apart (x ∷ []) u v l e f p s = absurd (omega arith)
  none_apart (x ∷ y ∷ []) u v l e f p s = absurd (omega arith)
  none_apart (x ∷ y ∷ z ∷ []) u v l e f p s = absurd (omega arith)
  none_apart (x ∷ y ∷ z ∷ w ∷ b) u v l e f p s =
      unpaired o x y z w b (ap is_surrogate (sym e) ∙ s) ((λ i. is_high_surrogate (sym e i) && is_low_surrogate (sym f i)) ∙ p)

  -- what a unit that is in no pair gives, where it is the first
  abbrev pub LoneUnit : ℕ → Option (ℕ × ℕ) → Type 0
  LoneUnit u r = MatchOption r (is_surrogate u ≡ true) (λ found. (is_surrogate u ≡ false) × (found.0 ≡ u) × (found.1 ≡ 2))

  pub lone_found : (b : List ℕ) (u : ℕ) (r : Option (ℕ × ℕ)) → 2 ≤ length b → u ≡ unit o (get_or b 0 0) (get_or b 1 0) → LoneUnit u r
      → IfSome r (λ found. (ys : List ℕ) → decode_utf16 o (take found.1 b ++ ys) ≡ after_text (found.0 ∷ []) found.1 (decode_utf16 o ys))
  lone_found b u None l e m = tt
  lone_found b u (Some found) l e m = lone_at b u found.0 found.1 l e m.0 m.1 m.2

  pub cut_found : (b : List ℕ) (u : ℕ) (r : Option (ℕ × ℕ)) → 2 ≤ length b → length b < 4 → u ≡ unit o (get_or b 0 0) (get_or b 1 0) → LoneUnit u r
      → IfNone r ((b ≡ []) ⊎ (decode_utf16 o b ≡ Err 0))
  cut_found b u None l m e s = inr (none_at_cut b u l m e s)
  cut_found b u (Some found) l m e s = tt

  pub apart_found : (b : List ℕ) (u v : ℕ) (r : Option (ℕ × ℕ)) → 4 ≤ length b → u ≡ unit o (get_or b 0 0) (get_or b 1 0) → v ≡ unit o (get_or b 2 0) (get_or b 3 0)
      → (is_high_surrogate u && is_low_surrogate v) ≡ false → LoneUnit u r → IfNone r ((b ≡ []) ⊎ (decode_utf16 o b ≡ Err 0))
  apart_found b u v None l e f p s = inr (none_apart b u v l e f p s)
  apart_found b u v (Some found) l e f p s = tt

  -- one sequence more
  pub sequence_more : (bytes codes : List ℕ) (at k code len : ℕ) → k < length codes → decode_utf16 o (take at bytes) ≡ Ok (take k codes)
      → ((ys : List ℕ) → decode_utf16 o (take len (drop at bytes) ++ ys) ≡ after_text (code ∷ []) len (decode_utf16 o ys))
      → decode_utf16 o (take (at + len) bytes) ≡ Ok (take (k + 1) (set codes k code))
  sequence_more bytes codes at k code len room e found =
      let stepwise = utf16_stepwise o in
      let one : decode_utf16 o (take len (drop at bytes)) ≡ Ok (code ∷ []) =
      ap (decode_utf16 o) (sym (append-nil (take len (drop at bytes)))) ∙ found [] ∙ ap (λ r. after_text (code ∷ []) len r) stepwise.nothing in
      two_texts (decode_utf16 o) stepwise bytes at len (take k codes) (code ∷ []) e one ∙ ap (λ l. Ok l) (sym (take_more_set codes k code room))
