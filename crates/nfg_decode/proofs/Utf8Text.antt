-- The code points of a text, part by part.
use Rattle.std.proofs.Common.{◌≡◌, ℕ, ◌+◌, ◌<◌, ◌≤◌, inl, inr, Bool, false, List, [], ◌∷◌, ◌++◌, length, set, take, drop, refl, sym, ap, ◌∙◌, subst, arith, length-append, length-drop, drop-drop, take-append-drop, append_assoc, IsUtf8, IsCharBoundary}
use Rattle.std.proofs.lemmas.List.{take_more_set, take_all}
use Rattle.std.proofs.lemmas.Str.{chars_past_char, length-encode, len_utf8_bounds, IsCharBoundary-past_char, chars-append, chars-nil, IsUtf8-take}
use Rattle.std.proofs.lemmas.Bool.{cases_lt}
use Rattle.std.specs.Prelude.{Err, Option, Some, None, MatchBool, is_some}
use Rattle.std.specs.Char.{len_utf8}
use Rattle.std.specs.Str.{chars}
use Rattle.std.specs.Str.Lossy.{utf8_valid_len, utf8_error_len}
use lib.Utf8.{encode, encodes}
use Rattle.nfg_decode.specs.declared.encoding.Encoding.TheVariants.{Utf8}
use Rattle.nfg_decode.specs.Utf8.{decode_utf8}
use Rattle.nfg_decode.specs.Encoding.{decode, IsAlreadyMalformed}
use Rattle.nfg_decode.specs.Reads.{IsUnfinished, Reads}
use Rattle.nfg_decode.proofs.ReadsLemmas.{IsUnfinished-end}
use Rattle.nfg_decode.proofs.Stepwise.{Breaks, breaks, two_texts}
use Rattle.nfg_decode.proofs.Utf8Laws.{valid_front, decode_utf8_text, fault_at, utf8_stepwise}
use Rattle.nfg_decode.proofs.Utf8Tails.{decode_is_utf8, error_len_stays, no_error_len_mends}

-- nothing is left of no bytes
empty_is_nil : (l : List ℕ) → length l ≡ 0 → l ≡ []
empty_is_nil [] e = refl
empty_is_nil (x ∷ l) e = absurd (omega arith)

pub chars_of_empty : (t : List ℕ) → length t ≡ 0 → chars t ≡ []
chars_of_empty t e = ap chars (empty_is_nil t e) ∙ chars-nil

-- one character more
module _ (s t codes : List ℕ) (n c : ℕ) (u : IsUtf8 s) (split : s ≡ encode c ++ t) (room : n + length s ≤ length codes) where
  longer : length s ≡ length (encode c) + length t
  longer = ap length split ∙ length-append (encode c) t

  pub char_fits : n + 1 + length t ≤ length codes
  char_fits = omega (arith, longer, length-encode c, len_utf8_bounds c)

  pub char_more : (whole : List ℕ) → take n codes ++ chars s ≡ whole → take (n + 1) (set codes n c) ++ chars t ≡ whole
  char_more whole e =
      let fits = char_fits in
      ap (λ l. l ++ chars t) (take_more_set codes n c (omega arith))
      ∙ append_assoc (take n codes) (c ∷ []) (chars t)
      ∙ ap (λ l. take n codes ++ l) (sym (chars_past_char s t c u split))
      ∙ e

-- the first character ends at a boundary, which is not far
near : (cs bs : List ℕ) (n room : ℕ) → IsUtf8 bs → encodes cs ≡ bs → 0 < length bs → 4 ≤ room
    → ((i : ℕ) → n < i → i ≤ room → IsCharBoundary bs i → ⊥) → 0 < n
near [] bs n room u e some r none = absurd (omega (arith, ap length e))
near (c ∷ cs) bs n room u e some r none = elim (cases_lt 0 n) [
  | inl h ↦ h
  | inr h ↦
      let bounds = len_utf8_bounds c in
      absurd (none (0 + len_utf8 c) (omega arith) (omega arith) (IsCharBoundary-past_char bs (encodes cs) 0 c (omega arith) u (sym e)))
]

pub some_part : (bs : List ℕ) (n room : ℕ) → IsUtf8 bs → 0 < length bs → 4 ≤ room → ((i : ℕ) → n < i → i ≤ room → IsCharBoundary bs i → ⊥) → 0 < n
some_part bs n room u some r none = near u.0 bs n room u u.1.1 some r none

-- one part more
pub part_more : (into rest codes : List ℕ) (k : ℕ) → IsUtf8 rest → IsCharBoundary rest k → codes ≡ chars (take k rest)
    → (into ++ codes) ++ chars (drop k rest) ≡ into ++ chars rest
part_more into rest codes k u b e =
    append_assoc into codes (chars (drop k rest))
    ∙ ap (λ l. into ++ (l ++ chars (drop k rest))) e
    ∙ ap (λ l. into ++ l) (sym (chars-append (take k rest) (drop k rest) (IsUtf8-take rest k u b)) ∙ ap chars (take-append-drop k rest))

-- what is read in all: all of the bytes, or those before the fault
pub text_read : (bytes old new : List ℕ) → IsUtf8 bytes → new ≡ old ++ chars bytes → Reads Utf8 bytes old new (length bytes) false
text_read bytes old new u e = record {
  within = omega arith;
  text = chars bytes;
  front = ap (decode Utf8) (take_all (length bytes) bytes (omega arith)) ∙ decode_is_utf8 bytes ∙ decode_utf8_text bytes u;
  added = e;
  behind = IsUnfinished-end Utf8 bytes;
}

open_or_not : (r : List ℕ) (o : Option ℕ) → decode_utf8 r ≡ Err 0 → o ≡ utf8_error_len r
    → MatchBool (is_some o) (IsAlreadyMalformed Utf8 r 0) (IsUnfinished Utf8 r)
open_or_not r None e o = no_error_len_mends r e (sym o)
open_or_not r (Some k) e o = λ more _. decode_is_utf8 (r ++ more) ∙ error_len_stays r more k e (sym o)

pub fault_read : (bytes old new : List ℕ) (at : ℕ) (o : Option ℕ) → at < length bytes → at ≡ utf8_valid_len bytes → o ≡ utf8_error_len (drop at bytes)
    → new ≡ old ++ chars (take at bytes) → Reads Utf8 bytes old new at (is_some o)
fault_read bytes old new at o short v l e =
    let b : Breaks decode_utf8 utf8_stepwise bytes at = breaks decode_utf8 utf8_stepwise bytes at (fault_at bytes at short v) in
    let front : IsUtf8 (take at bytes) = subst (λ n. IsUtf8 (take n bytes)) (sym v) (valid_front bytes) in
    record {
      within = omega arith;
      text = chars (take at bytes);
      front = decode_is_utf8 (take at bytes) ∙ decode_utf8_text (take at bytes) front;
      added = e;
      behind = open_or_not (drop at bytes) o b.there l;
    }

-- a text at the front, and what is read of the bytes behind it
pub reads_behind : (bytes old mid new : List ℕ) (k at : ℕ) (m : Bool) → k ≤ length bytes → IsUtf8 (take k bytes) → mid ≡ old ++ chars (take k bytes)
    → Reads Utf8 (drop k bytes) mid new at m → Reads Utf8 bytes old new (k + at) m
reads_behind bytes old mid new k at m within u e r =
    let front = take k bytes in
    record {
      within = omega (arith, r.within, length-drop k bytes);
      text = chars front ++ r.text;
      front = decode_is_utf8 (take (k + at) bytes)
          ∙ two_texts decode_utf8 utf8_stepwise bytes k at (chars front) r.text (decode_utf8_text front u) (sym (decode_is_utf8 (take at (drop k bytes))) ∙ r.front);
      added = r.added ∙ ap (λ l. l ++ r.text) e ∙ append_assoc old (chars front) r.text;
      behind = subst (λ l. MatchBool m (IsAlreadyMalformed Utf8 l 0) (IsUnfinished Utf8 l)) (drop-drop at k bytes) r.behind;
    }
