-- On what a reading gives.
use Rattle.std.proofs.Common.{◌≡◌, ℕ, zero, suc, ◌<◌, inl, List, [], ◌∷◌, ◌++◌, length, drop, refl, sym, ap, ◌∙◌, subst, arith, append_assoc}
use Rattle.std.proofs.lemmas.List.{append-nil, drop_all}
use Rattle.std.specs.Prelude.{Result, Ok, Err, OnErr}
use Rattle.std.specs.Str.{chars}
use Rattle.std.specs.Str.Lossy.{utf8_valid_len}
use Rattle.nfg_decode.specs.declared.encoding.Encoding.{Encoding}
use Rattle.nfg_decode.specs.declared.encoding.Encoding.TheVariants.{Utf8, Utf16, Utf16Le, Utf16Be, Latin1}
use Rattle.nfg_decode.specs.Utf8.{decode_utf8}
use Rattle.nfg_decode.specs.Utf16.{decode_utf16, decode_marked}
use Rattle.nfg_decode.specs.Encoding.{decode, AreBytes}
use Rattle.nfg_decode.specs.Reads.{Grew, IsUnfinished}

-- what holds anyway holds of an error
pub on_err : {T E : Type 0} (r : Result T E) (P : Type 0) → P → OnErr r P
on_err (Ok x) P p = tt
on_err (Err e) P p = p

pub Grew-refl : (l : List ℕ) → Grew l l
Grew-refl l = ([], sym (append-nil l))

pub Grew-more : (old new next more : List ℕ) → Grew old new → next ≡ new ++ more → Grew old next
Grew-more old new next more g e = (g.0 ++ more, e ∙ ap (λ l. l ++ more) g.1 ∙ append_assoc old g.0 more)

pub Grew-trans : (old new next : List ℕ) → Grew old new → Grew new next → Grew old next
Grew-trans old new next g h = Grew-more old new next h.0 g h.1

-- no bytes are the empty text
pub decode-nil : (e : Encoding) → decode e [] ≡ Ok []
unfolding decode decode_utf8 decode_utf16 decode_marked utf8_valid_len chars
decode-nil Utf8 = refl
decode-nil Utf16 = refl
decode-nil Utf16Le = refl
decode-nil Utf16Be = refl
decode-nil Latin1 = refl

pub AreBytes-cons : (x : ℕ) (xs : List ℕ) → x < 256 → AreBytes xs → AreBytes (x ∷ xs)
AreBytes-cons x xs h t zero d l = h
AreBytes-cons x xs h t (suc k) d l = t k d (omega arith)

pub AreBytes-nil : AreBytes []
AreBytes-nil k d l = absurd (omega arith)

pub AreBytes-append : (xs ys : List ℕ) → AreBytes xs → AreBytes ys → AreBytes (xs ++ ys)
AreBytes-append [] ys a b = b
AreBytes-append (x ∷ xs) ys a b = AreBytes-cons x (xs ++ ys) (a 0 0 (omega arith)) (AreBytes-append xs ys (λ k d l. a (suc k) d (omega arith)) b)

pub one_byte : (x : ℕ) → x < 256 → AreBytes (x ∷ [])
one_byte x h = AreBytes-cons x [] h AreBytes-nil

pub two_bytes : (x y : ℕ) → x < 256 → y < 256 → AreBytes (x ∷ y ∷ [])
two_bytes x y h g = AreBytes-cons x (y ∷ []) h (one_byte y g)

pub three_bytes : (x y z : ℕ) → x < 256 → y < 256 → z < 256 → AreBytes (x ∷ y ∷ z ∷ [])
three_bytes x y z h g f = AreBytes-cons x (y ∷ z ∷ []) h (two_bytes y z g f)

pub IsUnfinished-nil : (e : Encoding) → IsUnfinished e []
IsUnfinished-nil e = record {
  short = omega arith;
  cut = inl refl;
  more = [];
  bytes = AreBytes-nil;
  text = [];
  completed = decode-nil e;
}

-- where all bytes are read nothing is left
pub IsUnfinished-end : (e : Encoding) (b : List ℕ) → IsUnfinished e (drop (length b) b)
IsUnfinished-end e b = subst (IsUnfinished e) (sym (drop_all (length b) b (omega arith))) (IsUnfinished-nil e)
