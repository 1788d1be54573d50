-- Encoding is the inverse of decoding.
use Rattle.std.proofs.Common.{◌≡◌, ◌≢◌, ℕ, suc, ◌+◌, ◌-◌, ◌*◌, ◌/◌, ◌%◌, ◌<◌, ◌≤◌, ◌⊎◌, inl, inr, true, false, ◌&&◌, List, [], ◌∷◌, ◌++◌, length, take, refl, sym, ap, ◌∙◌, subst, arith, append_assoc, eqb-true, leb-true, ltb-true, le-leb, lt-ltb, IsUtf8}
use Rattle.std.proofs.lemmas.List.{append-nil, take_all}
use Rattle.std.proofs.lemmas.Bool.{cases_lt, cases_Bool, and_parts, cond_both}
use Rattle.std.proofs.lemmas.Str.{chars-encodes}
use Rattle.std.specs.Prelude.{◌==◌, Ok, Err, flat_map, encode_utf8}
use Rattle.std.specs.Char.Escape.{encode_utf16}
use Rattle.std.specs.Char.Utf16.{is_high_surrogate, is_low_surrogate, surrogate_pair_char}
use Rattle.std.specs.Str.{all_scalars, chars}
use Rattle.std.specs.Str.Lossy.{utf8_valid_len}
use lib.Utf8.{scalar, encodes, scalar_cases}
use Rattle.nfg_decode.specs.declared.encoding.Encoding.{Encoding}
use Rattle.nfg_decode.specs.declared.encoding.Encoding.TheVariants.{Utf8, Utf16, Utf16Le, Utf16Be, Latin1}
use Rattle.nfg_decode.specs.declared.utf16.ByteOrder.{ByteOrder}
use Rattle.nfg_decode.specs.declared.utf16.ByteOrder.TheVariants.{Little, Big}
use Rattle.nfg_decode.specs.Decoded.{after_text}
use Rattle.nfg_decode.specs.Utf8.{decode_utf8}
use Rattle.nfg_decode.specs.Utf16.{unit, unit_bytes, is_surrogate, decode_utf16}
use Rattle.nfg_decode.specs.Encoding.{decode, encode, encode_code, AreBytes}
use Rattle.nfg_decode.proofs.Stepwise.{Continues, continues}
use Rattle.nfg_decode.proofs.Utf8Laws.{valid_front, decode_utf8_text}
use Rattle.nfg_decode.proofs.Utf16Laws.{lone, paired, unpaired_alone, unpaired_odd, unpaired}
use Rattle.nfg_decode.proofs.Utf16Tails.{not_surrogate}
use Rattle.nfg_decode.proofs.PrefixLemmas.{marked}
use Rattle.nfg_encode.proofs.CodeLemmas.{utf16_one, utf16_two}

-- ---- UTF-8

utf8_all : (t : List ℕ) → flat_map (encode_code Utf8) t ≡ encodes t
utf8_all [] = refl
utf8_all (c ∷ t) = ap (λ l. encode_utf8 c ++ l) (utf8_all t)

encoded_utf8 : (t : List ℕ) → all_scalars t ≡ true → decode_utf8 (flat_map (encode_code Utf8) t) ≡ Ok t
encoded_utf8 t s = ap decode_utf8 (utf8_all t) ∙ decode_utf8_text (encodes t) (t, (s, refl)) ∙ ap (λ l. Ok l) (chars-encodes t s)

abbrev Spelled : List ℕ → List ℕ → Type 0
Spelled b t = (utf8_valid_len b ≡ length b) × (chars b ≡ t)

spelled : (b t : List ℕ) → decode_utf8 b ≡ Ok t → Spelled b t
unfolding decode_utf8
spelled b t = cond_both (utf8_valid_len b == length b) (Ok (chars b)) (Err (utf8_valid_len b)) (λ r. r ≡ Ok t → Spelled b t)
    (λ whole e. (eqb-true (utf8_valid_len b) (length b) whole, cc)) (λ _ e. cc)

only_utf8 : (b t : List ℕ) → decode_utf8 b ≡ Ok t → b ≡ flat_map (encode_code Utf8) t
only_utf8 b t e =
    let s = spelled b t e in
    let u : IsUtf8 b = subst IsUtf8 (ap (λ n. take n b) s.0 ∙ take_all (length b) b (omega arith)) (valid_front b) in
    let same : u.0 ≡ t = sym (chars-encodes u.0 u.1.0) ∙ ap chars u.1.1 ∙ s.1 in
    sym u.1.1 ∙ ap encodes same ∙ sym (utf8_all t)

-- ---- UTF-16

high_is : (u : ℕ) → 0xD800 ≤ u → u < 0xDC00 → is_high_surrogate u ≡ true
high_is u l h = rw (le-leb 0xD800 u l, lt-ltb u 0xDC00 h) refl

low_is : (u : ℕ) → 0xDC00 ≤ u → u < 0xE000 → is_low_surrogate u ≡ true
low_is u l h = rw (le-leb 0xDC00 u l, lt-ltb u 0xE000 h) refl

high_from : (u : ℕ) → is_high_surrogate u ≡ true → (0xD800 ≤ u) × (u < 0xDC00)
high_from u e = let parts = and_parts _ _ e in (leb-true 0xD800 u parts.0, ltb-true u 0xDC00 parts.1)

low_from : (u : ℕ) → is_low_surrogate u ≡ true → (0xDC00 ≤ u) × (u < 0xE000)
low_from u e = let parts = and_parts _ _ e in (leb-true 0xDC00 u parts.0, ltb-true u 0xE000 parts.1)

abbrev units : ByteOrder → List ℕ → List ℕ
units o us = flat_map (unit_bytes o) us

abbrev spelling : ByteOrder → List ℕ → List ℕ
spelling o t = flat_map (λ c. units o (encode_utf16 c)) t

-- a unit and its bytes
read_unit : (o : ByteOrder) (u : ℕ) (ys : List ℕ) → is_surrogate u ≡ false → decode_utf16 o (unit_bytes o u ++ ys) ≡ after_text (u ∷ []) 2 (decode_utf16 o ys)
read_unit Little u ys s =
    let same : u % 256 + u / 256 * 256 ≡ u = omega arith in
    lone Little (u % 256) (u / 256) (ap is_surrogate same ∙ s) ys ∙ ap (λ x. after_text (x ∷ []) 2 (decode_utf16 Little ys)) same
read_unit Big u ys s =
    let same : u / 256 * 256 + u % 256 ≡ u = omega arith in
    lone Big (u / 256) (u % 256) (ap is_surrogate same ∙ s) ys ∙ ap (λ x. after_text (x ∷ []) 2 (decode_utf16 Big ys)) same

read_pair : (o : ByteOrder) (u v : ℕ) (ys : List ℕ) → is_high_surrogate u ≡ true → is_low_surrogate v ≡ true
    → decode_utf16 o (unit_bytes o u ++ (unit_bytes o v ++ ys)) ≡ after_text (surrogate_pair_char u v ∷ []) 4 (decode_utf16 o ys)
read_pair Little u v ys h l =
    let one : u % 256 + u / 256 * 256 ≡ u = omega arith in
    let two : v % 256 + v / 256 * 256 ≡ v = omega arith in
    paired Little (u % 256) (u / 256) (v % 256) (v / 256) (ap is_high_surrogate one ∙ h) (ap is_low_surrogate two ∙ l) ys
    ∙ (λ i. after_text (surrogate_pair_char (one i) (two i) ∷ []) 4 (decode_utf16 Little ys))
read_pair Big u v ys h l =
    let one : u / 256 * 256 + u % 256 ≡ u = omega arith in
    let two : v / 256 * 256 + v % 256 ≡ v = omega arith in
    paired Big (u / 256) (u % 256) (v / 256) (v % 256) (ap is_high_surrogate one ∙ h) (ap is_low_surrogate two ∙ l) ys
    ∙ (λ i. after_text (surrogate_pair_char (one i) (two i) ∷ []) 4 (decode_utf16 Big ys))

-- a code point and its units
abbrev ReadsCode : ByteOrder → ℕ → List ℕ → Type 0
ReadsCode o c ys = (n : ℕ) × (decode_utf16 o (units o (encode_utf16 c) ++ ys) ≡ after_text (c ∷ []) n (decode_utf16 o ys))

read_code : (o : ByteOrder) (c : ℕ) (ys : List ℕ) → (c < 55296) ⊎ ((57344 ≤ c) × (c < 1114112)) → ReadsCode o c ys
read_code o c ys s = elim (cases_lt c 0x1_0000) [
  | inl below ↦ (
    2,
    ap (λ us. decode_utf16 o (units o us ++ ys)) (utf16_one c below)
        ∙ ap (λ l. decode_utf16 o (l ++ ys)) (append-nil (unit_bytes o c))
        ∙ read_unit o c ys (not_surrogate c (elim s [ inl h ↦ inl h | inr h ↦ inr h.0 ])),
  )
  | inr above ↦
      let u = 0xD800 + (c - 0x1_0000) / 0x400 in
      let v = 0xDC00 + (c - 0x1_0000) % 0x400 in
      let top : c < 1114112 = elim s [ inl h ↦ omega arith | inr h ↦ h.1 ] in
      let same : surrogate_pair_char u v ≡ c = omega arith in (
        4,
        ap (λ us. decode_utf16 o (units o us ++ ys)) (utf16_two c above)
            ∙ ap (decode_utf16 o) (append_assoc (unit_bytes o u) (unit_bytes o v ++ []) ys ∙ ap (λ l. unit_bytes o u ++ (l ++ ys)) (append-nil (unit_bytes o v)))
            ∙ read_pair o u v ys (high_is u (omega arith) (omega arith)) (low_is v (omega arith) (omega arith))
            ∙ ap (λ x. after_text (x ∷ []) 4 (decode_utf16 o ys)) same,
      )
]

encoded_utf16 : (o : ByteOrder) (t : List ℕ) → all_scalars t ≡ true → decode_utf16 o (spelling o t) ≡ Ok t
unfolding decode_utf16
encoded_utf16 o [] s = refl
encoded_utf16 o (c ∷ t) s =
    let parts = and_parts (scalar c) (all_scalars t) s in
    let r = read_code o c (spelling o t) (scalar_cases c parts.0) in
    r.1 ∙ ap (λ d. after_text (c ∷ []) r.0 d) (encoded_utf16 o t parts.1)

-- the bytes of a unit that was read
unit_back : (o : ByteOrder) (x y : ℕ) → x < 256 → y < 256 → unit_bytes o (unit o x y) ≡ x ∷ y ∷ []
unit_back Little x y h g =
    let p : (x + y * 256) % 256 ≡ x = omega arith in
    let q : (x + y * 256) / 256 ≡ y = omega arith in
    λ i. p i ∷ q i ∷ []
unit_back Big x y h g =
    let p : (x * 256 + y) / 256 ≡ x = omega arith in
    let q : (x * 256 + y) % 256 ≡ y = omega arith in
    λ i. p i ∷ q i ∷ []

small_unit : (o : ByteOrder) (x y : ℕ) → x < 256 → y < 256 → unit o x y < 0x1_0000
small_unit Little x y h g = omega arith
small_unit Big x y h g = omega arith

pair_back : (u v : ℕ) → 0xD800 ≤ u → u < 0xDC00 → 0xDC00 ≤ v → v < 0xE000 → encode_utf16 (surrogate_pair_char u v) ≡ u ∷ v ∷ []
pair_back u v a b c d =
    let p : 0xD800 + (surrogate_pair_char u v - 0x1_0000) / 0x400 ≡ u = omega arith in
    let q : 0xDC00 + (surrogate_pair_char u v - 0x1_0000) % 0x400 ≡ v = omega arith in
    utf16_two (surrogate_pair_char u v) (omega arith) ∙ (λ i. p i ∷ q i ∷ [])

tail_bytes : (x : ℕ) (b : List ℕ) → AreBytes (x ∷ b) → AreBytes b
tail_bytes x b a k d l = a (suc k) d (omega arith)

module _ (o : ByteOrder) where
  lone_back : (x y : ℕ) (b t : List ℕ) → x < 256 → y < 256 → is_surrogate (unit o x y) ≡ false → decode_utf16 o (x ∷ y ∷ b) ≡ Ok t
      → ((u : List ℕ) → decode_utf16 o b ≡ Ok u → b ≡ spelling o u) → x ∷ y ∷ b ≡ spelling o t
  lone_back x y b t h g s e rest =
      let u = unit o x y in
      let c : Continues (u ∷ []) 2 (decode_utf16 o b) t = continues (u ∷ []) 2 (decode_utf16 o b) t (sym (lone o x y s b) ∙ e) in
      let bytes : units o (encode_utf16 u) ≡ x ∷ y ∷ [] =
      ap (units o) (utf16_one u (small_unit o x y h g)) ∙ append-nil (unit_bytes o u) ∙ unit_back o x y h g in
      (λ i. sym bytes i ++ rest c.more c.is i) ∙ ap (spelling o) c.joined

  paired_back : (x y z w : ℕ) (b t : List ℕ) → x < 256 → y < 256 → z < 256 → w < 256 → is_high_surrogate (unit o x y) ≡ true → is_low_surrogate (unit o z w) ≡ true
      → decode_utf16 o (x ∷ y ∷ z ∷ w ∷ b) ≡ Ok t → ((u : List ℕ) → decode_utf16 o b ≡ Ok u → b ≡ spelling o u) → x ∷ y ∷ z ∷ w ∷ b ≡ spelling o t
  paired_back x y z w b t hx hy hz hw high low e rest =
      let u = unit o x y in
      let v = unit o z w in
      let p = surrogate_pair_char u v in
      let c : Continues (p ∷ []) 4 (decode_utf16 o b) t = continues (p ∷ []) 4 (decode_utf16 o b) t (sym (paired o x y z w high low b) ∙ e) in
      let hu = high_from u high in
      let lv = low_from v low in
      let bytes : units o (encode_utf16 p) ≡ x ∷ y ∷ z ∷ w ∷ [] =
      ap (units o) (pair_back u v hu.0 hu.1 lv.0 lv.1)
      ∙ (λ i. unit_back o x y hx hy i ++ (append-nil (unit_bytes o v) ∙ unit_back o z w hz hw) i) in
      (λ i. sym bytes i ++ rest c.more c.is i) ∙ ap (spelling o) c.joined

  only_utf16 : (b t : List ℕ) → AreBytes b → decode_utf16 o b ≡ Ok t → b ≡ spelling o t
  unfolding decode_utf16
  only_utf16 [] t a e = let none : [] ≡ t = cc in ap (spelling o) none
  only_utf16 (x ∷ []) t a e = cc
  only_utf16 (x ∷ y ∷ []) t a e = elim (cases_Bool (is_surrogate (unit o x y))) [
    | inl s ↦ (let bad = unpaired_alone o x y s in cc)
    | inr s ↦ lone_back x y [] t (a 0 0 (omega arith)) (a 1 0 (omega arith)) s e (λ u f. let none : [] ≡ u = cc in ap (spelling o) none)
  ]
  only_utf16 (x ∷ y ∷ z ∷ []) t a e = elim (cases_Bool (is_surrogate (unit o x y))) [
    | inl s ↦ (let bad = unpaired_odd o x y z s in cc)
    | inr s ↦ lone_back x y (z ∷ []) t (a 0 0 (omega arith)) (a 1 0 (omega arith)) s e (λ u f. cc)
  ]
  only_utf16 (x ∷ y ∷ z ∷ w ∷ b) t a e =
      let from_two = only_utf16 (z ∷ w ∷ b) in
      let from_four = only_utf16 b in
      let rest = tail_bytes y (z ∷ w ∷ b) (tail_bytes x (y ∷ z ∷ w ∷ b) a) in
      elim (cases_Bool (is_surrogate (unit o x y))) [
        | inr s ↦ lone_back x y (z ∷ w ∷ b) t (a 0 0 (omega arith)) (a 1 0 (omega arith)) s e (λ u f. from_two u rest f)
        | inl s ↦ elim (cases_Bool (is_high_surrogate (unit o x y) && is_low_surrogate (unit o z w))) [
          | inr p ↦ (let bad = unpaired o x y z w b s p in cc)
          | inl p ↦
              let parts = and_parts (is_high_surrogate (unit o x y)) (is_low_surrogate (unit o z w)) p in
              paired_back x y z w b t (a 0 0 (omega arith)) (a 1 0 (omega arith)) (a 2 0 (omega arith)) (a 3 0 (omega arith)) parts.0 parts.1 e
              (λ u f. from_four u (tail_bytes w b (tail_bytes z (w ∷ b) rest)) f)
        ]
      ]

-- ---- Latin-1

latin1_all : (t : List ℕ) → flat_map (encode_code Latin1) t ≡ t
latin1_all [] = refl
latin1_all (c ∷ t) = ap (λ l. c ∷ l) (latin1_all t)

-- ---- the laws

pub encoded_decodes : (e : Encoding) (t : List ℕ) → all_scalars t ≡ true → decode e (encode e t) ≡ Ok t
unfolding decode encode
encoded_decodes Utf8 t s = encoded_utf8 t s
encoded_decodes Utf16 t s = marked Big (spelling Big t) ∙ ap (λ r. after_text [] 2 r) (encoded_utf16 Big t s)
encoded_decodes Utf16Le t s = encoded_utf16 Little t s
encoded_decodes Utf16Be t s = encoded_utf16 Big t s
encoded_decodes Latin1 t s = ap (λ l. Ok l) (latin1_all t)

pub only_encoding : (e : Encoding) (b t : List ℕ) → e ≢ Utf16 → AreBytes b → decode e b ≡ Ok t → b ≡ encode e t
unfolding decode encode
only_encoding Utf8 b t n a d = only_utf8 b t d
only_encoding Utf16 b t n a d = absurd (n refl)
only_encoding Utf16Le b t n a d = only_utf16 Little b t a d
only_encoding Utf16Be b t n a d = only_utf16 Big b t a d
only_encoding Latin1 b t n a d = let same : b ≡ t = cc in same ∙ sym (latin1_all t)
