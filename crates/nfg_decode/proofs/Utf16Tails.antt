-- Where UTF-16 breaks off: what more bytes can mend, and what they cannot.
use Rattle.std.proofs.Common.{◌≡◌, ℕ, ◌+◌, ◌*◌, ◌<◌, ◌≤◌, ◌⊎◌, inl, inr, Bool, true, false, not, ◌&&◌, List, [], ◌∷◌, ◌++◌, length, get_or, take, drop, refl, sym, ap, subst, ◌∙◌, arith, le-leb, leb-true, leb-false, lt-ltb, le-ltb, ltb-true}
use Rattle.std.proofs.lemmas.Bool.{cases_Bool, and_parts, and_cases, and_left, and_right, or_parts, or_cases, or_from, or_right, cases_lt, not-true, not-false, lt-leb, true≢false}
use Rattle.std.proofs.lemmas.List.{get_or-drop}
use Rattle.std.specs.Prelude.{Ok, Err, MatchBool}
use Rattle.std.specs.Char.Utf16.{is_high_surrogate, is_low_surrogate, surrogate_pair_char}
use Rattle.nfg_decode.specs.declared.utf16.ByteOrder.{ByteOrder}
use Rattle.nfg_decode.specs.declared.utf16.ByteOrder.TheVariants.{Little, Big}
use Rattle.nfg_decode.specs.Utf16.{unit, is_surrogate, is_low_byte, is_surely_low, may_be_low, is_hopeless, decode_utf16}
use Rattle.nfg_decode.specs.Encoding.{decode, AreBytes, IsAlreadyMalformed}
use Rattle.nfg_decode.specs.Reads.{AppendsUnits, IsUnfinished, Reads, utf16_form}
use Rattle.nfg_decode.proofs.ReadsLemmas.{IsUnfinished-nil, one_byte, two_bytes, three_bytes}
use Rattle.nfg_decode.proofs.Stepwise.{Fails, fails}
use Rattle.nfg_decode.proofs.Utf16Laws.{lone, paired, unpaired_alone, unpaired_odd, unpaired}

-- the surrogates as ranges
low_from : (u : ℕ) → is_low_surrogate u ≡ true → (0xDC00 ≤ u) × (u < 0xE000)
low_from u e =
    let parts = and_parts _ _ e in
    (leb-true 0xDC00 u parts.0, ltb-true u 0xE000 parts.1)

low_is : (u : ℕ) → 0xDC00 ≤ u → u < 0xE000 → is_low_surrogate u ≡ true
low_is u l h = rw (le-leb 0xDC00 u l, lt-ltb u 0xE000 h) refl

high_is : (u : ℕ) → 0xD800 ≤ u → u < 0xDC00 → is_high_surrogate u ≡ true
high_is u l h = rw (le-leb 0xD800 u l, lt-ltb u 0xDC00 h) refl

not_low : (u : ℕ) → (u < 0xDC00) ⊎ (0xE000 ≤ u) → is_low_surrogate u ≡ false
not_low u (inl h) = and_left _ _ (lt-leb 0xDC00 u h)
not_low u (inr h) = and_right _ _ (le-ltb u 0xE000 h)

not_high : (u : ℕ) → (u < 0xD800) ⊎ (0xDC00 ≤ u) → is_high_surrogate u ≡ false
not_high u (inl h) = and_left _ _ (lt-leb 0xD800 u h)
not_high u (inr h) = and_right _ _ (le-ltb u 0xDC00 h)

pub not_surrogate : (u : ℕ) → (u < 0xD800) ⊎ (0xE000 ≤ u) → is_surrogate u ≡ false
not_surrogate u (inl h) = or_from _ _ (not_high u (inl h)) (not_low u (inl (omega arith)))
not_surrogate u (inr h) = or_from _ _ (not_high u (inr (omega arith))) (not_low u (inr h))

-- a surrogate that is not a low one is a high one
high_from : (u : ℕ) → is_surrogate u ≡ true → is_low_surrogate u ≡ false → is_high_surrogate u ≡ true
high_from u s l = elim (or_cases (is_high_surrogate u) (is_low_surrogate u) s) [ inl h ↦ h | inr h ↦ cc ]

-- the high byte says whether a unit is a low surrogate
in_low_range : (x : ℕ) → is_low_byte x ≡ true → (0xDC ≤ x) × (x ≤ 0xDF)
in_low_range x e =
    let parts = and_parts _ _ e in
    (leb-true 0xDC x parts.0, leb-true x 0xDF parts.1)

out_of_low_range : (x : ℕ) → is_low_byte x ≡ false → (x < 0xDC) ⊎ (0xDF < x)
out_of_low_range x e = elim (and_cases _ _ e) [ inl h ↦ inl (leb-false 0xDC x h) | inr h ↦ inr (leb-false x 0xDF h) ]

surely_low : (o : ByteOrder) (x y : ℕ) → is_surely_low o x ≡ true → y < 256 → is_low_surrogate (unit o x y) ≡ true
surely_low Little x y e h = cc
surely_low Big x y e h = let range = in_low_range x e in low_is (x * 256 + y) (omega arith) (omega arith)

never_low : (o : ByteOrder) (z w : ℕ) → may_be_low o z ≡ false → w < 256 → is_low_surrogate (unit o z w) ≡ false
never_low Little z w e h = cc
never_low Big z w e h = not_low (z * 256 + w) (elim (out_of_low_range z e) [ inl l ↦ inl (omega arith) | inr l ↦ inr (omega arith) ])

module _ (o : ByteOrder) where
  -- no sequence begins with a unit only if it is a surrogate
  surrogate_first : (x y : ℕ) (b : List ℕ) → decode_utf16 o (x ∷ y ∷ b) ≡ Err 0 → is_surrogate (unit o x y) ≡ true
  surrogate_first x y b e = elim (cases_Bool (is_surrogate (unit o x y))) [
    | inl s ↦ s
    | inr s ↦
        let f : Fails 2 (decode_utf16 o b) 0 = fails (unit o x y ∷ []) 2 (decode_utf16 o b) 0 (sym (lone o x y s b) ∙ e) in
        absurd (omega (arith, f.joined))
  ]

  -- a low surrogate that stands first is in no pair
  low_first : (x y : ℕ) (b : List ℕ) → is_low_surrogate (unit o x y) ≡ true → decode_utf16 o (x ∷ y ∷ b) ≡ Err 0
  low_first x y [] l = unpaired_alone o x y (or_right _ _ l)
  low_first x y (z ∷ []) l = unpaired_odd o x y z (or_right _ _ l)
  low_first x y (z ∷ w ∷ b) l =
      let range = low_from (unit o x y) l in
      unpaired o x y z w b (or_right _ _ l) (and_left _ _ (not_high (unit o x y) (inr range.0)))

  not_paired : (x y z w : ℕ) (b : List ℕ) → decode_utf16 o (x ∷ y ∷ z ∷ w ∷ b) ≡ Err 0 → (is_high_surrogate (unit o x y) && is_low_surrogate (unit o z w)) ≡ false
  not_paired x y z w b e = elim (cases_Bool (is_high_surrogate (unit o x y) && is_low_surrogate (unit o z w))) [
    | inr p ↦ p
    | inl p ↦
        let parts = and_parts (is_high_surrogate (unit o x y)) (is_low_surrogate (unit o z w)) p in
        let f : Fails 4 (decode_utf16 o b) 0 = fails (surrogate_pair_char (unit o x y) (unit o z w) ∷ []) 4 (decode_utf16 o b) 0 (sym (paired o x y z w parts.0 parts.1 b) ∙ e) in
        absurd (omega (arith, f.joined))
  ]

  -- what no byte can mend
  pub hopeless_stays : (r more : List ℕ) → decode_utf16 o r ≡ Err 0 → is_hopeless o r ≡ true → AreBytes more → decode_utf16 o (r ++ more) ≡ Err 0
  hopeless_stays [] more e h bytes = cc
  hopeless_stays (x ∷ []) [] e h bytes = e
  hopeless_stays (x ∷ []) (y ∷ more) e h bytes = low_first x y more (surely_low o x y h (bytes 0 0 (omega arith)))
  hopeless_stays (x ∷ y ∷ []) more e h bytes = low_first x y more h
  hopeless_stays (x ∷ y ∷ z ∷ []) [] e h bytes = e
  hopeless_stays (x ∷ y ∷ z ∷ []) (w ∷ more) e h bytes = elim (or_cases (is_low_surrogate (unit o x y)) (not (may_be_low o z)) h) [
    | inl l ↦ low_first x y (z ∷ w ∷ more) l
    | inr n ↦ unpaired o x y z w more (surrogate_first x y (z ∷ []) e)
        (and_right _ _ (never_low o z w (not-true _ n) (bytes 0 0 (omega arith))))
  ]
  hopeless_stays (x ∷ y ∷ z ∷ w ∷ b) more e h bytes =
      unpaired o x y z w (b ++ more) (surrogate_first x y (z ∷ w ∷ b) e) (not_paired x y z w b e)

-- ---- what more bytes mend

pub decode-utf16_form : (o : ByteOrder) (b : List ℕ) → decode (utf16_form o) b ≡ decode_utf16 o b
unfolding decode
decode-utf16_form Little b = refl
decode-utf16_form Big b = refl

pub mended : (o : ByteOrder) (r more text : List ℕ) → length r ≤ 3 → decode_utf16 o r ≡ Err 0 → AreBytes more → decode_utf16 o (r ++ more) ≡ Ok text → IsUnfinished (utf16_form o) r
mended o r more text short e bytes whole = record {
  short = short;
  cut = inr (decode-utf16_form o r ∙ e);
  more = more;
  bytes = bytes;
  text = text;
  completed = decode-utf16_form o (r ++ more) ∙ whole;
}

pub one_unit : (o : ByteOrder) (x y : ℕ) → is_surrogate (unit o x y) ≡ false → decode_utf16 o (x ∷ y ∷ []) ≡ Ok (unit o x y ∷ [])
unfolding decode_utf16
one_unit o x y s = lone o x y s []

one_pair : (o : ByteOrder) (x y z w : ℕ) → is_high_surrogate (unit o x y) ≡ true → is_low_surrogate (unit o z w) ≡ true
    → decode_utf16 o (x ∷ y ∷ z ∷ w ∷ []) ≡ Ok (surrogate_pair_char (unit o x y) (unit o z w) ∷ [])
unfolding decode_utf16
one_pair o x y z w h l = paired o x y z w h l []

after_one : (o : ByteOrder) (x : ℕ) → x < 256 → decode_utf16 o (x ∷ []) ≡ Err 0 → is_surely_low o x ≡ false → IsUnfinished (utf16_form o) (x ∷ [])
after_one Little x b e h =
    mended Little (x ∷ []) (0 ∷ []) _ (omega arith) e (one_byte 0 (omega arith)) (one_unit Little x 0 (not_surrogate (x + 0 * 256) (inl (omega arith))))
after_one Big x b e h = elim (cases_lt x 0xD8) [
  | inl below ↦ mended Big (x ∷ []) (0 ∷ []) _ (omega arith) e (one_byte 0 (omega arith)) (one_unit Big x 0 (not_surrogate (x * 256 + 0) (inl (omega arith))))
  | inr from ↦ elim (out_of_low_range x h) [
    | inl high ↦
        let is_high = high_is (x * 256 + 0) (omega arith) (omega arith) in
        let is_low = low_is (0xDC * 256 + 0) (omega arith) (omega arith) in
        mended Big (x ∷ []) (0 ∷ 0xDC ∷ 0 ∷ []) _ (omega arith) e (three_bytes 0 0xDC 0 (omega arith) (omega arith) (omega arith)) (one_pair Big x 0 0xDC 0 is_high is_low)
    | inr above ↦ mended Big (x ∷ []) (0 ∷ []) _ (omega arith) e (one_byte 0 (omega arith)) (one_unit Big x 0 (not_surrogate (x * 256 + 0) (inr (omega arith))))
  ]
]

after_high : (o : ByteOrder) (x y : ℕ) → decode_utf16 o (x ∷ y ∷ []) ≡ Err 0 → is_high_surrogate (unit o x y) ≡ true → IsUnfinished (utf16_form o) (x ∷ y ∷ [])
after_high Little x y e h =
    mended Little (x ∷ y ∷ []) (0 ∷ 0xDC ∷ []) _ (omega arith) e (two_bytes 0 0xDC (omega arith) (omega arith)) (one_pair Little x y 0 0xDC h (low_is (0 + 0xDC * 256) (omega arith) (omega arith)))
after_high Big x y e h =
    mended Big (x ∷ y ∷ []) (0xDC ∷ 0 ∷ []) _ (omega arith) e (two_bytes 0xDC 0 (omega arith) (omega arith)) (one_pair Big x y 0xDC 0 h (low_is (0xDC * 256 + 0) (omega arith) (omega arith)))

after_three : (o : ByteOrder) (x y z : ℕ) → z < 256 → decode_utf16 o (x ∷ y ∷ z ∷ []) ≡ Err 0 → is_high_surrogate (unit o x y) ≡ true → may_be_low o z ≡ true
    → IsUnfinished (utf16_form o) (x ∷ y ∷ z ∷ [])
after_three Little x y z b e h m =
    mended Little (x ∷ y ∷ z ∷ []) (0xDC ∷ []) _ (omega arith) e (one_byte 0xDC (omega arith)) (one_pair Little x y z 0xDC h (low_is (z + 0xDC * 256) (omega arith) (omega arith)))
after_three Big x y z b e h m =
    let range = in_low_range z m in
    mended Big (x ∷ y ∷ z ∷ []) (0 ∷ []) _ (omega arith) e (one_byte 0 (omega arith)) (one_pair Big x y z 0 h (low_is (z * 256 + 0) (omega arith) (omega arith)))

-- what is not hopeless more bytes can complete
pub unfinished : (o : ByteOrder) (r : List ℕ) → ((i : ℕ) → get_or r i 0 < 256) → (r ≡ []) ⊎ (decode_utf16 o r ≡ Err 0) → is_hopeless o r ≡ false
    → IsUnfinished (utf16_form o) r
unfinished o [] b s h = IsUnfinished-nil (utf16_form o)
unfinished o (x ∷ []) b (inl n) h = cc
unfinished o (x ∷ []) b (inr e) h = after_one o x (b 0) e h
unfinished o (x ∷ y ∷ []) b (inl n) h = cc
unfinished o (x ∷ y ∷ []) b (inr e) h = after_high o x y e (high_from (unit o x y) (surrogate_first o x y [] e) h)
unfinished o (x ∷ y ∷ z ∷ []) b (inl n) h = cc
unfinished o (x ∷ y ∷ z ∷ []) b (inr e) h =
    let parts = or_parts (is_low_surrogate (unit o x y)) (not (may_be_low o z)) h in
    after_three o x y z (b 2) e (high_from (unit o x y) (surrogate_first o x y (z ∷ []) e) parts.0) (not-false _ parts.1)
unfinished o (x ∷ y ∷ z ∷ w ∷ r) b s h = cc

open_or_not : (o : ByteOrder) (r : List ℕ) (b : Bool) → ((i : ℕ) → get_or r i 0 < 256) → (r ≡ []) ⊎ (decode_utf16 o r ≡ Err 0) → b ≡ is_hopeless o r
    → MatchBool b (IsAlreadyMalformed (utf16_form o) r 0) (IsUnfinished (utf16_form o) r)
open_or_not o r true b (inl n) e = absurd (true≢false (e ∙ ap (is_hopeless o) n))
open_or_not o r true b (inr d) e = λ more bytes. decode-utf16_form o (r ++ more) ∙ hopeless_stays o r more d (sym e) bytes
open_or_not o r false b d e = unfinished o r b d (sym e)

-- what is read in all
pub units_read : (o : ByteOrder) (bytes old new : List ℕ) (at : ℕ) (b : Bool) → ((i : ℕ) → get_or bytes i 0 < 256)
    → AppendsUnits o bytes old new at → b ≡ is_hopeless o (drop at bytes) → Reads (utf16_form o) bytes old new at b
units_read o bytes old new at b small a e = record {
  within = a.within;
  text = a.text;
  front = decode-utf16_form o (take at bytes) ∙ a.front;
  added = a.added;
  behind = open_or_not o (drop at bytes) b (λ i. rw get_or-drop (small (at + i))) a.none e;
}

-- ---- bytes of one sequence, or that end inside one

module _ (o : ByteOrder) (x y u : ℕ) (is : u ≡ unit o x y) where
  pub unit_whole : is_surrogate u ≡ false → decode (utf16_form o) (x ∷ y ∷ []) ≡ Ok (u ∷ [])
  unit_whole s =
      decode-utf16_form o (x ∷ y ∷ [])
      ∙ one_unit o x y (subst (λ v. is_surrogate v ≡ false) is s)
      ∙ ap (λ v. Ok (v ∷ [])) (sym is)

  pub cut_pair : is_surrogate u ≡ true → is_low_surrogate u ≡ false → IsUnfinished (utf16_form o) (x ∷ y ∷ [])
  cut_pair s l =
      let first = subst (λ v. is_surrogate v ≡ true) is s in
      after_high o x y (unpaired_alone o x y first) (high_from (unit o x y) first (subst (λ v. is_low_surrogate v ≡ false) is l))

  pub cut_unit : (z : ℕ) → z < 256 → is_surrogate u ≡ true → is_low_surrogate u ≡ false → may_be_low o z ≡ true → IsUnfinished (utf16_form o) (x ∷ y ∷ z ∷ [])
  cut_unit z b s l m =
      let first = subst (λ v. is_surrogate v ≡ true) is s in
      after_three o x y z b (unpaired_odd o x y z first) (high_from (unit o x y) first (subst (λ v. is_low_surrogate v ≡ false) is l)) m

  pub pair_whole : (z w v c : ℕ) → v ≡ unit o z w → (is_high_surrogate u && is_low_surrogate v) ≡ true → c ≡ surrogate_pair_char u v
      → decode (utf16_form o) (x ∷ y ∷ z ∷ w ∷ []) ≡ Ok (c ∷ [])
  pair_whole z w v c second p code =
      let parts = and_parts (is_high_surrogate u) (is_low_surrogate v) p in
      decode-utf16_form o (x ∷ y ∷ z ∷ w ∷ [])
      ∙ one_pair o x y z w (subst (λ n. is_high_surrogate n ≡ true) is parts.0) (subst (λ n. is_low_surrogate n ≡ true) second parts.1)
      ∙ ap (λ n. Ok (n ∷ [])) (λ i. surrogate_pair_char (sym is i) (sym second i))
      ∙ ap (λ n. Ok (n ∷ [])) (sym code)

pub cut_byte : (o : ByteOrder) (x : ℕ) → x < 256 → is_surely_low o x ≡ false → IsUnfinished (utf16_form o) (x ∷ [])
unfolding decode_utf16
cut_byte o x b h = after_one o x b refl h
