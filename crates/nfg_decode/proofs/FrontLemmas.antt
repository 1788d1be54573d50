-- The front of a text, sequence by sequence, and four sequences of three bytes as lanes.
use Rattle.std.proofs.Common.{◌≡◌, ℕ, true, ◌+◌, ◌-◌, ◌*◌, ◌%◌, ◌<◌, ◌≤◌, List, [], ◌∷◌, ◌++◌, length, get_or, set, take, drop, Fits, w8, refl, sym, ap, ◌∙◌, subst, arith, length-drop, drop-drop, append_assoc, IsUtf8}
use Rattle.std.proofs.lemmas.List.{get_or-drop, get_or_append_left, get_or-take, length-take, length-take-le, take-append-le, take_more_set}
use Rattle.std.proofs.Math.Seq.{take-append-add}
use borrow.Rule.Slice.PartMut.{post_of, put_mid}
use Rattle.std.proofs.lemmas.List.Elements.{All-get_or}
use Rattle.std.proofs.lemmas.List.Sums.{AllPass-from_list_all}
use Rattle.std.specs.Str.{chars}
use Rattle.std.specs.List.{list_all}
use Rattle.nfg_decode.specs.Utf8.{IsFirst, IsFront, is_three_lead}
use Rattle.nfg_decode.proofs.Utf8Sequences.{one_first, three_first}

-- one front behind another
pub front_more : (t xs ys : List ℕ) (n m : ℕ) → IsFront t n xs → IsFront (drop n t) m ys → IsFront t (n + m) (xs ++ ys)
front_more t xs ys n m first next =
    let behind = drop-drop m n t in
    record {
      within = omega (arith, first.within, next.within, length-drop n t);
      rest = subst IsUtf8 behind next.rest;
      codes =
          first.codes ∙ ap (λ l. xs ++ l) next.codes ∙ sym (append_assoc xs ys (chars (drop m (drop n t))))
          ∙ ap (λ l. (xs ++ ys) ++ chars l) behind;
    }

-- no bytes
pub front_none : (t : List ℕ) → IsUtf8 t → IsFront t 0 []
front_none t u = record { within = omega arith; rest = u; codes = refl }

-- what the lanes compute of three bytes
abbrev pub lane : ℕ → ℕ → ℕ → ℕ
lane a b c = ((((a + 4294967072) % 4294967296 * 4096 % 4294967296 + b * 64 % 4294967296) % 4294967296 + c) % 4294967296 + 4294958976) % 4294967296

lane_is : (a b c : ℕ) → 0xE0 ≤ a → a < 0xF0 → 0x80 ≤ b → b < 256 → 0x80 ≤ c → c < 256
    → (a - 0xE0) * 0x1000 + (b - 0x80) * 0x40 + (c - 0x80) ≡ lane a b c
lane_is a b c a_least a_most b_least b_most c_least c_most = omega arith

lead_range : (a : ℕ) → is_three_lead a ≡ true → (0xE0 ≤ a) × (a < 0xF0)
lead_range a lead = (grind arith, grind arith)

lead_at : (l : List ℕ) → list_all is_three_lead l ≡ true → (k : ℕ) → k < length l → (0xE0 ≤ get_or l k 0) × (get_or l k 0 < 0xF0)
lead_at l leads k inside = lead_range (get_or l k 0) (All-get_or (λ a. is_three_lead a ≡ true) l k 0 inside (AllPass-from_list_all is_three_lead l leads))

module _ (t : List ℕ) (long : 16 ≤ length t) (fits : (k : ℕ) → Fits w8 (get_or t k 0)) where
  -- the lanes of the block, as a swizzle reads them
  abbrev pub at : ℕ → ℕ
  at k = get_or (take 16 t ++ take 16 t) k 0

  at_is : (k : ℕ) → k < 16 → at k ≡ get_or t k 0
  at_is k inside = get_or_append_left (take 16 t) (take 16 t) 0 k (omega (arith, length-take 16 t)) ∙ get_or-take 16 t k 0 inside

  -- the sequence at n
  three_at : (n : ℕ) → n < 14 → IsUtf8 (drop n t) → 0xE0 ≤ get_or t n 0 → get_or t n 0 < 0xF0
      → IsFirst (drop n t) 3 (lane (at n) (at (n + 1)) (at (n + 2)))
  three_at n inside u least most =
      let lead : get_or (drop n t) 0 0 ≡ get_or t n 0 = get_or-drop n t 0 0 ∙ ap (λ k. get_or t k 0) (omega arith) in
      let s = three_first (drop n t) u (omega (arith, length-drop n t)) (omega (arith, lead)) (omega (arith, lead)) in
      let a : get_or (drop n t) 0 0 ≡ at n = lead ∙ sym (at_is n (omega arith)) in
      let b : get_or (drop n t) 1 0 ≡ at (n + 1) = get_or-drop n t 1 0 ∙ sym (at_is (n + 1) (omega arith)) in
      let c : get_or (drop n t) 2 0 ≡ at (n + 2) = get_or-drop n t 2 0 ∙ sym (at_is (n + 2) (omega arith)) in
      let b_most : get_or (drop n t) 1 0 < 256 = omega (arith, get_or-drop n t 1 0, (fits (n + 1)).fits) in
      let c_most : get_or (drop n t) 2 0 < 256 = omega (arith, get_or-drop n t 2 0, (fits (n + 2)).fits) in
      subst (IsFirst (drop n t) 3) (lane_is _ _ _ s.least s.most s.second b_most s.third c_most ∙ (λ i. lane (a i) (b i) (c i))) s.first

  -- the sequences at 0, 3, 6 and 9
  pub four_front : IsUtf8 t → list_all is_three_lead (get_or t 0 0 ∷ get_or t 3 0 ∷ get_or t 6 0 ∷ get_or t 9 0 ∷ []) ≡ true
      → IsFront t 12 (lane (at 0) (at 1) (at 2) ∷ lane (at 3) (at 4) (at 5) ∷ lane (at 6) (at 7) (at 8) ∷ lane (at 9) (at 10) (at 11) ∷ [])
  four_front u leads =
      let found = get_or t 0 0 ∷ get_or t 3 0 ∷ get_or t 6 0 ∷ get_or t 9 0 ∷ [] in
      let a = lead_at found leads 0 (omega arith) in
      let b = lead_at found leads 1 (omega arith) in
      let c = lead_at found leads 2 (omega arith) in
      let d = lead_at found leads 3 (omega arith) in
      let one = three_at 0 (omega arith) u a.0 a.1 in
      let two = front_more t _ _ 3 3 one (three_at 3 (omega arith) one.rest b.0 b.1) in
      let three = front_more t _ _ 6 3 two (three_at 6 (omega arith) two.rest c.0 c.1) in
      front_more t _ _ 9 3 three (three_at 9 (omega arith) three.rest d.0 d.1)

-- what was written before and the front of what was written behind it
written : (old new : List ℕ) (n k m : ℕ) → n ≤ length old → m ≤ length new → take (n + m) (put_mid n k old new) ≡ take n old ++ take m new
written old new n k m inside enough =
    ap (λ j. take (j + m) (put_mid n k old new)) (sym (length-take-le n old inside))
    ∙ take-append-add (take n old) (new ++ post_of n k old) m
    ∙ ap (λ l. take n old ++ l) (take-append-le m new (post_of n k old) enough)

-- the front, and one behind it that was written behind what was written before
pub front_behind : (t old new : List ℕ) (at n k len m at_next n_next : ℕ) → IsFront t at (take n old) → IsFront (drop at t) len (take m new) → n ≤ length old
    → m ≤ length new → at + len ≡ at_next → n + m ≡ n_next → IsFront t at_next (take n_next (put_mid n k old new))
front_behind t old new at n k len m at_next n_next first next inside enough at_is n_is =
    let stored = sym (written old new n k m inside enough) ∙ ap (λ j. take j (put_mid n k old new)) n_is in
    subst (λ j. IsFront t j (take n_next (put_mid n k old new))) at_is
    (subst (IsFront t (at + len)) stored (front_more t (take n old) (take m new) at len first next))

-- the front, and one code point behind it
pub front_set : (t codes : List ℕ) (at n len code : ℕ) → IsFront t at (take n codes) → IsFirst (drop at t) len code → n < length codes
    → IsFront t (at + len) (take (n + 1) (set codes n code))
front_set t codes at n len code front first inside =
    subst (IsFront t (at + len)) (sym (take_more_set codes n code inside)) (front_more t (take n codes) (code ∷ []) at len front first)

-- the front, and a byte of ASCII behind it
pub front_ascii : (t codes : List ℕ) (n code : ℕ) → IsFront t n (take n codes) → n < length t → length t ≤ length codes → get_or t n 0 < 0x80 → code ≡ get_or t n 0
    → IsFront t (n + 1) (take (n + 1) (set codes n code))
front_ascii t codes n code front inside room low is =
    let lead : get_or (drop n t) 0 0 ≡ get_or t n 0 = get_or-drop n t 0 0 ∙ ap (λ k. get_or t k 0) (omega arith) in
    let one = one_first (drop n t) front.rest (omega (arith, length-drop n t)) (omega (arith, lead)) in
    front_set t codes n n 1 code front (subst (IsFirst (drop n t) 1) (lead ∙ sym is) one.first) (omega arith)
