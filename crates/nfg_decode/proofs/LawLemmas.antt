-- The laws of decoding.
use Rattle.std.proofs.Common.{◌≡◌, ℕ, zero, suc, ◌<◌, ◌≤◌, ◌↔◌, inl, inr, true, false, ◌&&◌, List, [], ◌∷◌, ◌++◌, length, take, drop, refl, sym, ap, ◌∙◌, subst, arith, eqb-true, leb-true, ltb-true, leb-false, ltb-false, le-ltb, le-leb, lt-ltb, length-take, take-append-drop, append_assoc, IsUtf8}
use Rattle.std.proofs.lemmas.Bool.{cases_lt, cases_Bool, and_parts, and_cases, or_parts, cond_both}
use Rattle.std.proofs.lemmas.List.{take_all, get_or-take}
use Rattle.std.proofs.lemmas.Str.{scalars-chars}
use Rattle.std.specs.Prelude.{◌==◌, Ok, Err, Option, Some, None, IsSome}
use Rattle.std.specs.Result.{result_unwrap_or}
use Rattle.std.specs.Str.{all_scalars, chars}
use Rattle.std.specs.Str.Lossy.{utf8_valid_len, utf8_error_len}
use Rattle.std.specs.Char.Utf16.{is_high_surrogate, is_low_surrogate, surrogate_pair_char}
use lib.Utf8.{scalar, low_scalar}
use Rattle.nfg_decode.specs.declared.encoding.Encoding.{Encoding}
use Rattle.nfg_decode.specs.declared.encoding.Encoding.TheVariants.{Utf8, Utf16, Utf16Le, Utf16Be, Latin1}
use Rattle.nfg_decode.specs.declared.utf16.ByteOrder.{ByteOrder}
use Rattle.nfg_decode.specs.declared.utf16.ByteOrder.TheVariants.{Little, Big}
use Rattle.nfg_decode.specs.Decoded.{Decoded, after_text}
use Rattle.nfg_decode.specs.Utf8.{decode_utf8}
use Rattle.nfg_decode.specs.Utf16.{unit, mark, is_surrogate, decode_utf16}
use Rattle.nfg_decode.specs.Encoding.{decode, decoded_prefix, text_len_up_to, AreBytes, IsAlreadyMalformed}
use Rattle.nfg_decode.proofs.Stepwise.{Breaks, breaks, Continues, continues}
use Rattle.nfg_decode.proofs.Utf8Laws.{valid_front, decode_utf8_after, fault_at, utf8_stepwise}
use Rattle.nfg_decode.proofs.Utf8Tails.{valid_len_at, error_len_stays, no_error_len_mends, decode_is_utf8}
use Rattle.nfg_decode.proofs.Utf16Laws.{lone, paired, unpaired_alone, unpaired_odd, unpaired}
use Rattle.nfg_decode.proofs.PrefixLemmas.{Marks, is_marked, is_plain, marks_of, marked, unmarked}
use Rattle.nfg_decode.proofs.StreamLemmas.{malformed_now}

-- ---- UTF-8 that no byte can mend

behind : (b : List ℕ) (p : ℕ) → utf8_valid_len b ≡ p → decode_utf8 b ≡ after_text (chars (take p b)) (length (take p b)) (decode_utf8 (drop p b))
behind b p v =
    let front : IsUtf8 (take p b) = subst (λ n. IsUtf8 (take n b)) v (valid_front b) in
    ap decode_utf8 (sym (take-append-drop p b)) ∙ decode_utf8_after (take p b) (drop p b) front

to_error_len : (b : List ℕ) (p : ℕ) (o : Option ℕ) → utf8_error_len (drop p b) ≡ o → utf8_valid_len b ≡ p → IsAlreadyMalformed Utf8 b p → IsSome o
to_error_len b p (Some n) is v bad = refl
to_error_len b p None is v bad =
    let k : Breaks decode_utf8 utf8_stepwise b p = breaks decode_utf8 utf8_stepwise b p (sym (decode_is_utf8 b) ∙ malformed_now Utf8 b p bad) in
    let u = no_error_len_mends (drop p b) k.there is in
    let front : IsUtf8 (take p b) = subst (λ n. IsUtf8 (take n b)) v (valid_front b) in
    let whole : decode Utf8 (b ++ u.more) ≡ Ok (chars (take p b) ++ u.text) =
    decode_is_utf8 (b ++ u.more)
    ∙ ap (λ l. decode_utf8 (l ++ u.more)) (sym (take-append-drop p b))
    ∙ ap decode_utf8 (append_assoc (take p b) (drop p b) u.more)
    ∙ decode_utf8_after (take p b) (drop p b ++ u.more) front
    ∙ ap (λ d. after_text (chars (take p b)) (length (take p b)) d) (sym (decode_is_utf8 (drop p b ++ u.more)) ∙ u.completed) in
    let broken = bad u.more u.bytes in
    cc

from_error_len : (b : List ℕ) (p : ℕ) (o : Option ℕ) → utf8_error_len (drop p b) ≡ o → IsSome o → utf8_valid_len b ≡ p → p < length b → IsAlreadyMalformed Utf8 b p
from_error_len b p None is some v short more small = cc
from_error_len b p (Some n) is some v short more small =
    let k : Breaks decode_utf8 utf8_stepwise b p = breaks decode_utf8 utf8_stepwise b p (fault_at b p short (sym v)) in
    let front : IsUtf8 (take p b) = subst (λ m. IsUtf8 (take m b)) v (valid_front b) in
    decode_is_utf8 (b ++ more)
    ∙ ap (λ l. decode_utf8 (l ++ more)) (sym (take-append-drop p b))
    ∙ ap decode_utf8 (append_assoc (take p b) (drop p b) more)
    ∙ decode_utf8_after (take p b) (drop p b ++ more) front
    ∙ ap (λ d. after_text (chars (take p b)) (length (take p b)) d) (error_len_stays (drop p b) more n k.there is)
    ∙ ap (λ m. Err m) (omega (arith, length-take p b))

none_at_end : (b : List ℕ) (p : ℕ) → length b ≤ p → IsSome (utf8_error_len (drop p b)) → ⊥
unfolding utf8_error_len
none_at_end [] zero l some = cc
none_at_end [] (suc p) l some = cc
none_at_end (x ∷ b) zero l some = absurd (omega arith)
none_at_end (x ∷ b) (suc p) l some = none_at_end b p (omega arith) some

pub utf8_exactly : (b : List ℕ) (p : ℕ) → IsAlreadyMalformed Utf8 b p ↔ ((utf8_valid_len b ≡ p) × IsSome (utf8_error_len (drop p b)))
utf8_exactly b p = (
  λ bad. (
      let v = valid_len_at b p (sym (decode_is_utf8 b) ∙ malformed_now Utf8 b p bad) in
      (v, to_error_len b p (utf8_error_len (drop p b)) refl v bad)),
  λ h. elim (cases_lt p (length b)) [
    | inl short ↦ from_error_len b p (utf8_error_len (drop p b)) refl h.1 h.0 short
    | inr past ↦ absurd (none_at_end b p past h.1)
  ],
)

-- ---- decoded code points are scalar values

utf8_scalars : (b t : List ℕ) → decode_utf8 b ≡ Ok t → all_scalars t ≡ true
unfolding decode_utf8
utf8_scalars b t = cond_both (utf8_valid_len b == length b) (Ok (chars b)) (Err (utf8_valid_len b)) (λ r. r ≡ Ok t → all_scalars t ≡ true)
    (λ whole e.
    let u : IsUtf8 b = subst IsUtf8 (ap (λ n. take n b) (eqb-true (utf8_valid_len b) (length b) whole) ∙ take_all (length b) b (omega arith)) (valid_front b) in
    let same : chars b ≡ t = cc in
    ap all_scalars (sym same) ∙ scalars-chars b u)
    (λ _ e. cc)

high_scalar : (c : ℕ) → 57344 ≤ c → c < 1114112 → scalar c ≡ true
high_scalar c l h = rw (le-ltb c 55296 (omega arith), le-leb 57344 c l, lt-ltb c 1114112 h)

one_more : (c : ℕ) (t : List ℕ) → scalar c ≡ true → all_scalars t ≡ true → all_scalars (c ∷ t) ≡ true
one_more c t s a = λ i. s i && a i

lone_scalar : (u : ℕ) → u < 0x1_0000 → is_surrogate u ≡ false → scalar u ≡ true
lone_scalar u h s =
    let parts = or_parts (is_high_surrogate u) (is_low_surrogate u) s in
    elim (and_cases _ _ parts.0) [
      | inl below ↦ low_scalar u (leb-false 0xD800 u below)
      | inr from ↦ elim (and_cases _ _ parts.1) [
        | inl under ↦ (let a = ltb-false u 0xDC00 from in let b = leb-false 0xDC00 u under in absurd (omega arith))
        | inr above ↦ high_scalar u (ltb-false u 0xE000 above) (omega arith)
      ]
    ]

pair_scalar : (u v : ℕ) → is_high_surrogate u ≡ true → is_low_surrogate v ≡ true → scalar (surrogate_pair_char u v) ≡ true
pair_scalar u v h l =
    let high = and_parts _ _ h in
    let low = and_parts _ _ l in
    let a = leb-true 0xD800 u high.0 in
    let b = ltb-true u 0xDC00 high.1 in
    let c = leb-true 0xDC00 v low.0 in
    let d = ltb-true v 0xE000 low.1 in
    high_scalar (surrogate_pair_char u v) (omega arith) (omega arith)

small_unit : (o : ByteOrder) (x y : ℕ) → x < 256 → y < 256 → unit o x y < 0x1_0000
small_unit Little x y h g = omega arith
small_unit Big x y h g = omega arith

tail_bytes : (x : ℕ) (b : List ℕ) → AreBytes (x ∷ b) → AreBytes b
tail_bytes x b a k d l = a (suc k) d (omega arith)

module _ (o : ByteOrder) where
  lone_text : (x y : ℕ) (b t : List ℕ) → x < 256 → y < 256 → is_surrogate (unit o x y) ≡ false → decode_utf16 o (x ∷ y ∷ b) ≡ Ok t
      → ((u : List ℕ) → decode_utf16 o b ≡ Ok u → all_scalars u ≡ true) → all_scalars t ≡ true
  lone_text x y b t h g s e rest =
      let c : Continues (unit o x y ∷ []) 2 (decode_utf16 o b) t = continues (unit o x y ∷ []) 2 (decode_utf16 o b) t (sym (lone o x y s b) ∙ e) in
      ap all_scalars (sym c.joined) ∙ one_more (unit o x y) c.more (lone_scalar (unit o x y) (small_unit o x y h g) s) (rest c.more c.is)

  pair_text : (x y z w : ℕ) (b t : List ℕ) → is_high_surrogate (unit o x y) ≡ true → is_low_surrogate (unit o z w) ≡ true → decode_utf16 o (x ∷ y ∷ z ∷ w ∷ b) ≡ Ok t
      → ((u : List ℕ) → decode_utf16 o b ≡ Ok u → all_scalars u ≡ true) → all_scalars t ≡ true
  pair_text x y z w b t h l e rest =
      let p = surrogate_pair_char (unit o x y) (unit o z w) in
      let c : Continues (p ∷ []) 4 (decode_utf16 o b) t = continues (p ∷ []) 4 (decode_utf16 o b) t (sym (paired o x y z w h l b) ∙ e) in
      ap all_scalars (sym c.joined) ∙ one_more p c.more (pair_scalar (unit o x y) (unit o z w) h l) (rest c.more c.is)

  utf16_scalars : (b t : List ℕ) → AreBytes b → decode_utf16 o b ≡ Ok t → all_scalars t ≡ true
  unfolding decode_utf16
  utf16_scalars [] t a e = let nothing : [] ≡ t = cc in ap all_scalars (sym nothing)
  utf16_scalars (x ∷ []) t a e = cc
  utf16_scalars (x ∷ y ∷ []) t a e = elim (cases_Bool (is_surrogate (unit o x y))) [
    | inl s ↦ (let bad = unpaired_alone o x y s in cc)
    | inr s ↦ lone_text x y [] t (a 0 0 (omega arith)) (a 1 0 (omega arith)) s e (λ u f. let nothing : [] ≡ u = cc in ap all_scalars (sym nothing))
  ]
  utf16_scalars (x ∷ y ∷ z ∷ []) t a e = elim (cases_Bool (is_surrogate (unit o x y))) [
    | inl s ↦ (let bad = unpaired_odd o x y z s in cc)
    | inr s ↦ lone_text x y (z ∷ []) t (a 0 0 (omega arith)) (a 1 0 (omega arith)) s e (λ u f. cc)
  ]
  utf16_scalars (x ∷ y ∷ z ∷ w ∷ b) t a e =
      let from_two = utf16_scalars (z ∷ w ∷ b) in
      let from_four = utf16_scalars b in
      let rest = tail_bytes y (z ∷ w ∷ b) (tail_bytes x (y ∷ z ∷ w ∷ b) a) in
      elim (cases_Bool (is_surrogate (unit o x y))) [
        | inr s ↦ lone_text x y (z ∷ w ∷ b) t (a 0 0 (omega arith)) (a 1 0 (omega arith)) s e (λ u f. from_two u rest f)
        | inl s ↦ elim (cases_Bool (is_high_surrogate (unit o x y) && is_low_surrogate (unit o z w))) [
          | inr p ↦ (let bad = unpaired o x y z w b s p in cc)
          | inl p ↦
              let parts = and_parts (is_high_surrogate (unit o x y)) (is_low_surrogate (unit o z w)) p in
              pair_text x y z w b t parts.0 parts.1 e (λ u f. from_four u (tail_bytes w b (tail_bytes z (w ∷ b) rest)) f)
        ]
      ]

behind_mark : (o : ByteOrder) (b : List ℕ) → AreBytes (mark o ++ b) → AreBytes b
behind_mark Little b a k d l = a (suc (suc k)) d (omega arith)
behind_mark Big b a k d l = a (suc (suc k)) d (omega arith)

marked_scalars : (b t : List ℕ) → Marks b → AreBytes b → decode Utf16 b ≡ Ok t → all_scalars t ≡ true
marked_scalars b t (is_marked o rest is) a e =
    let c : Continues [] 2 (decode_utf16 o rest) t = continues [] 2 (decode_utf16 o rest) t (sym (marked o rest) ∙ ap (decode Utf16) (sym is) ∙ e) in
    ap all_scalars (sym c.joined) ∙ utf16_scalars o rest c.more (behind_mark o rest (subst AreBytes is a)) c.is
marked_scalars b t (is_plain u) a e = utf16_scalars Big b t a (sym (unmarked b u) ∙ e)

latin1_scalars : (b : List ℕ) → AreBytes b → all_scalars b ≡ true
latin1_scalars [] a = refl
latin1_scalars (x ∷ b) a =
    let small : x < 256 = a 0 0 (omega arith) in
    one_more x b (low_scalar x (omega arith)) (latin1_scalars b (tail_bytes x b a))

pub decoded_scalars : (e : Encoding) (b t : List ℕ) → AreBytes b → decode e b ≡ Ok t → all_scalars t ≡ true
unfolding decode
decoded_scalars Utf8 b t a d = utf8_scalars b t d
decoded_scalars Utf16 b t a d = marked_scalars b t (marks_of b) a d
decoded_scalars Utf16Le b t a d = utf16_scalars Little b t a d
decoded_scalars Utf16Be b t a d = utf16_scalars Big b t a d
decoded_scalars Latin1 b t a d = let same : b ≡ t = cc in ap all_scalars (sym same) ∙ latin1_scalars b a

bytes-take : (b : List ℕ) (n : ℕ) → AreBytes b → AreBytes (take n b)
bytes-take b n a k d l = let within : k < n = omega (arith, length-take n b) in rw (get_or-take n b k d within) (a k d (omega (arith, length-take n b)))

scalars_of : (e : Encoding) (b : List ℕ) (r : Decoded) → AreBytes b → decode e b ≡ r → all_scalars (result_unwrap_or r []) ≡ true
scalars_of e b (Ok t) a d = decoded_scalars e b t a d
scalars_of e b (Err p) a d = refl

pub prefix_scalars : (e : Encoding) (b : List ℕ) → AreBytes b → all_scalars (decoded_prefix e b) ≡ true
unfolding decoded_prefix
prefix_scalars e b a =
    let n = text_len_up_to e b (length b) in scalars_of e (take n b) (decode e (take n b)) (bytes-take b n a) refl
