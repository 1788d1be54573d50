-- The bytes of a text, code point by code point.
use Rattle.std.proofs.Common.{◌≡◌, ℕ, zero, suc, ◌+◌, ◌<◌, ◌≤◌, inl, inr, Bool, true, false, cond, not, List, [], ◌∷◌, ◌++◌, length, get_or, take, drop, refl, sym, ap, ◌∙◌, arith, length-take, length-drop, append_assoc, take-append-drop, le-ltb, ltb-false, All}
use Rattle.std.proofs.lemmas.List.{append-nil, take_more, get_or-drop, get_or-take}
use Rattle.std.proofs.lemmas.Bool.{and_parts}
use Rattle.std.proofs.Math.Seq.{take-append-add}
use Rattle.std.specs.Prelude.{Result, Ok, Err, OnOk, OnErr, Some, None, flat_map, position}
use Rattle.std.specs.List.{prefix_len}
use Rattle.std.specs.Str.{all_scalars}
use lib.Utf8.{scalar, scalar_cases}
use Rattle.nfg_decode.specs.declared.encoding.Encoding.{Encoding}
use Rattle.nfg_decode.specs.declared.encoding.Encoding.TheVariants.{Utf8, Utf16, Utf16Le, Utf16Be, Latin1}
use Rattle.nfg_decode.specs.Encoding.{has_code, encode_code, text_start, encode}
use Rattle.nfg_encode.specs.Refusal.{AreEncodable, Grew, first_lacked}

-- what holds anyway holds of an error
pub on_err : {T E : Type 0} (r : Result T E) (P : Type 0) → P → OnErr r P
on_err (Ok x) P p = tt
on_err (Err e) P p = p

pub Grew-refl : (l : List ℕ) → Grew l l
Grew-refl l = ([], sym (append-nil l))

pub Grew-more : (old new next more : List ℕ) → Grew old new → next ≡ new ++ more → Grew old next
Grew-more old new next more g e = (g.0 ++ more, e ∙ ap (λ l. l ++ more) g.1 ∙ append_assoc old g.0 more)

pub flat_map-append : (f : ℕ → List ℕ) (xs ys : List ℕ) → flat_map f (xs ++ ys) ≡ flat_map f xs ++ flat_map f ys
flat_map-append f [] ys = refl
flat_map-append f (x ∷ xs) ys = ap (λ l. f x ++ l) (flat_map-append f xs ys) ∙ sym (append_assoc (f x) (flat_map f xs) (flat_map f ys))

-- parts of what can be encoded can be
pub encodable-take : (e : Encoding) (codes : List ℕ) (n : ℕ) → AreEncodable e codes → AreEncodable e (take n codes)
encodable-take e codes n a = record {
  small = λ k d l. (let within : k < n = omega (arith, length-take n codes) in rw (get_or-take n codes k d within) (a.small k d (omega (arith, length-take n codes))));
  had = λ k d l. (let within : k < n = omega (arith, length-take n codes) in rw (get_or-take n codes k d within) (a.had k d (omega (arith, length-take n codes))));
}

pub encodable-drop : (e : Encoding) (codes : List ℕ) (n : ℕ) → AreEncodable e codes → AreEncodable e (drop n codes)
encodable-drop e codes n a = record {
  small = λ k d l. rw (get_or-drop n codes k d) (a.small (n + k) d (omega (arith, length-drop n codes)));
  had = λ k d l. rw (get_or-drop n codes k d) (a.had (n + k) d (omega (arith, length-drop n codes)));
}

-- one code point more in the buffer
pub code_more : (e : Encoding) (codes out bytes : List ℕ) (at k n : ℕ) → k < length codes → at ≤ length out
    → take at out ≡ flat_map (encode_code e) (take k codes) → take n bytes ≡ encode_code e (get_or codes k 0) → n ≤ length bytes
    → take (at + n) (take at out ++ bytes) ≡ flat_map (encode_code e) (take (k + 1) codes)
code_more e codes out bytes at k n there room front more fits =
    let f = encode_code e in
    let x = get_or codes k 0 in
    let len : length (take at out) ≡ at = omega (arith, length-take at out) in
    ap (λ m. take (m + n) (take at out ++ bytes)) (sym len)
    ∙ take-append-add (take at out) bytes n
    ∙ (λ i. front i ++ more i)
    ∙ ap (λ l. flat_map f (take k codes) ++ l) (sym (append-nil (f x)))
    ∙ sym (flat_map-append f (take k codes) (x ∷ []))
    ∙ ap (flat_map f) (sym (take_more codes k 0 there))

-- a text's code points
small_scalars : (codes : List ℕ) → all_scalars codes ≡ true → All (λ c. c < 0x11_0000) codes
small_scalars [] t k d l = absurd (omega arith)
small_scalars (c ∷ codes) t zero d l = elim (scalar_cases c (and_parts (scalar c) (all_scalars codes) t).0) [ inl h ↦ omega arith | inr h ↦ h.1 ]
small_scalars (c ∷ codes) t (suc k) d l = small_scalars codes (and_parts (scalar c) (all_scalars codes) t).1 k d (omega arith)

-- ---- where the first code point stands that an encoding lacks

prefix_of_all : (p : ℕ → Bool) (xs : List ℕ) → ((x : ℕ) → p x ≡ true) → prefix_len p xs ≡ length xs
prefix_of_all p [] h = refl
prefix_of_all p (x ∷ xs) h = let rest = prefix_of_all p xs h in rw (h x) (omega arith)

lacks_none : (p : ℕ → Bool) (codes : List ℕ) → ((x : ℕ) → p x ≡ false) → None ≡ position p codes
lacks_none p codes h =
    let all = prefix_of_all (λ x. not (p x)) codes (λ x. ap not (h x)) in
    rw (le-ltb (prefix_len (λ x. not (p x)) codes) (length codes) (omega arith)) refl

pub only_latin1 : (e : Encoding) (codes : List ℕ) → (e ≡ Latin1 → ⊥) → None ≡ first_lacked e codes
only_latin1 Utf8 codes n = lacks_none _ codes (λ x. refl)
only_latin1 Utf16 codes n = lacks_none _ codes (λ x. refl)
only_latin1 Utf16Le codes n = lacks_none _ codes (λ x. refl)
only_latin1 Utf16Be codes n = lacks_none _ codes (λ x. refl)
only_latin1 Latin1 codes n = absurd (n refl)

pub only_utf16 : (e : Encoding) → (e ≡ Utf16 → ⊥) → text_start e ≡ []
only_utf16 Utf8 n = refl
only_utf16 Utf16 n = absurd (n refl)
only_utf16 Utf16Le n = refl
only_utf16 Utf16Be n = refl
only_utf16 Latin1 n = refl

not_not : (b : Bool) → not (not b) ≡ true → b ≡ true
not_not true e = refl
not_not false e = cc

all_of_prefix : (p : ℕ → Bool) (xs : List ℕ) → length xs ≤ prefix_len (λ x. not (p x)) xs → (k d : ℕ) → k < length xs → not (p (get_or xs k d)) ≡ true
all_of_prefix p [] h k d l = absurd (omega arith)
all_of_prefix p (x ∷ xs) h k d l = by_test (not (p x)) refl h k l (all_of_prefix p xs)
  where
    by_test : (b : Bool) → not (p x) ≡ b → suc (length xs) ≤ cond b (1 + prefix_len (λ y. not (p y)) xs) 0 → (j : ℕ) → j < suc (length xs)
        → (length xs ≤ prefix_len (λ y. not (p y)) xs → (i d' : ℕ) → i < length xs → not (p (get_or xs i d')) ≡ true)
        → not (p (get_or (x ∷ xs) j d)) ≡ true
    by_test false e g j m rest = absurd (omega arith)
    by_test true e g zero m rest = e
    by_test true e g (suc j) m rest = rest (omega arith) j d (omega arith)

cond_none : {A : Type 0} (b : Bool) (x : A) → cond b (Some x) None ≡ None → b ≡ false
cond_none true x e = cc
cond_none false x e = refl

-- a text of which the encoding has each code point
pub encodable : (e : Encoding) (codes : List ℕ) → all_scalars codes ≡ true → first_lacked e codes ≡ None → AreEncodable e codes
encodable e codes t none =
    let lacks : ℕ → Bool = λ c. not (has_code e c) in
    let n = prefix_len (λ x. not (lacks x)) codes in
    let far : length codes ≤ n = ltb-false n (length codes) (cond_none _ n none) in
    record {
      small = small_scalars codes t;
      had = λ k d l. not_not (has_code e (get_or codes k d)) (all_of_prefix lacks codes far k d l);
    }

-- one part more
pub part_more : (e : Encoding) (into rest bytes : List ℕ) (k : ℕ) → bytes ≡ flat_map (encode_code e) (take k rest)
    → (into ++ bytes) ++ flat_map (encode_code e) (drop k rest) ≡ into ++ flat_map (encode_code e) rest
part_more e into rest bytes k is =
    let f = encode_code e in
    append_assoc into bytes (flat_map f (drop k rest))
    ∙ ap (λ l. into ++ (l ++ flat_map f (drop k rest))) is
    ∙ ap (λ l. into ++ l) (sym (flat_map-append f (take k rest) (drop k rest)) ∙ ap (flat_map f) (take-append-drop k rest))

pub encoded : (e : Encoding) (codes old mid new : List ℕ) → mid ≡ old ++ text_start e → new ≡ mid ++ flat_map (encode_code e) codes → new ≡ old ++ encode e codes
unfolding encode
encoded e codes old mid new s r = r ∙ ap (λ l. l ++ flat_map (encode_code e) codes) s ∙ append_assoc old (text_start e) (flat_map (encode_code e) codes)

pub encoded_if_ok : {T E : Type 0} (e : Encoding) (codes old mid new : List ℕ) (r : Result T E) → mid ≡ old ++ text_start e
    → OnOk r (new ≡ mid ++ flat_map (encode_code e) codes) → OnOk r (new ≡ old ++ encode e codes)
encoded_if_ok e codes old mid new (Ok x) s r = encoded e codes old mid new s r
encoded_if_ok e codes old mid new (Err x) s r = tt
