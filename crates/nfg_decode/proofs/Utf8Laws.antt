-- UTF-8 goes by one sequence after another.
use Rattle.std.proofs.Common.{◌≡◌, ℕ, zero, suc, ◌+◌, ◌<◌, ◌≤◌, inl, inr, true, List, [], ◌∷◌, ◌++◌, length, take, drop, refl, sym, ap, ◌∙◌, subst, arith, length-append, length-take, take-append-drop, append_assoc, eq-eqb, ne_eqb, IsUtf8}
use Rattle.std.proofs.lemmas.Bool.{cases_lt, cases_eq, cond_both, and_parts}
use Rattle.std.proofs.lemmas.List.{append-nil, take_all, take_at, drop_at}
use Rattle.std.proofs.lemmas.Str.{IsUtf8-append, IsUtf8-nil, IsUtf8-encode, IsUtf8-from_is_utf8, is_utf8-from_IsUtf8, utf8_valid_len_le, utf8_valid_len-IsUtf8, utf8_valid_len-IsValidUpTo, chars-append, chars-encodes, len_utf8_bounds, length-encode}
use Rattle.std.specs.Prelude.{Ok, Err}
use Rattle.std.specs.Str.{IsValidUpTo, is_utf8, chars}
use Rattle.std.specs.Str.Lossy.{valid_len_up_to, utf8_valid_len}
use Rattle.simdutf8.proofs.Parts.{valid_after}
use lib.Utf8.{scalar, scalars, encode, encodes}
use Rattle.nfg_decode.specs.Decoded.{after_text}
use Rattle.nfg_decode.specs.Utf8.{decode_utf8}
use Rattle.nfg_decode.proofs.Stepwise.{First, empty, begins, none, IsStepwise}

-- the front that std's word finds is UTF-8
front_up_to : (bs : List ℕ) (n : ℕ) → IsUtf8 (take (valid_len_up_to bs n) bs)
front_up_to bs zero = IsUtf8-nil
front_up_to bs (suc n) = cond_both (is_utf8 (take (suc n) bs)) (suc n) (valid_len_up_to bs n) (λ k. IsUtf8 (take k bs))
    (λ e. IsUtf8-from_is_utf8 _ e) (λ _. front_up_to bs n)

pub valid_front : (bs : List ℕ) → IsUtf8 (take (utf8_valid_len bs) bs)
unfolding utf8_valid_len
valid_front bs = front_up_to bs (length bs)

-- and no longer one is
longest_up_to : (bs : List ℕ) (n k : ℕ) → valid_len_up_to bs n < k → k ≤ n → IsUtf8 (take k bs) → ⊥
longest_up_to bs zero k more within u = omega arith
longest_up_to bs (suc n) k more within u = cond_both (is_utf8 (take (suc n) bs)) (suc n) (valid_len_up_to bs n) (λ v. v < k → ⊥)
    (λ _ l. omega arith)
    (λ refused l. elim (cases_lt n k) [
      | inl top ↦
          let same : k ≡ suc n = omega arith in
          let passed = is_utf8-from_IsUtf8 _ (subst (λ m. IsUtf8 (take m bs)) same u) in
          cc
      | inr low ↦ longest_up_to bs n k l low u
    ])
    more

pub none_longer : (bs : List ℕ) (k : ℕ) → utf8_valid_len bs < k → k ≤ length bs → IsUtf8 (take k bs) → ⊥
unfolding utf8_valid_len
none_longer bs k more within u = longest_up_to bs (length bs) k more within u

valid_up_to_it : (bs : List ℕ) → utf8_valid_len bs < length bs → IsValidUpTo bs (utf8_valid_len bs)
valid_up_to_it bs short = record {
  short = short;
  front = valid_front bs;
  longest = λ m more u. elim (cases_lt (length bs) m) [
    | inl past ↦
        let whole : take m bs ≡ take (length bs) bs = take_all m bs (omega arith) ∙ sym (take_all (length bs) bs (omega arith)) in
        none_longer bs (length bs) short (omega arith) (subst IsUtf8 whole u)
    | inr within ↦ none_longer bs m more within u
  ];
}

text_of : (bs : List ℕ) → utf8_valid_len bs ≡ length bs → IsUtf8 bs
text_of bs whole = subst IsUtf8 (ap (λ n. take n bs) whole ∙ take_all (length bs) bs (omega arith)) (valid_front bs)

pub chars_of_one : (c : ℕ) → scalar c ≡ true → chars (encode c) ≡ c ∷ []
chars_of_one c s = ap chars (sym (append-nil (encode c))) ∙ chars-encodes (c ∷ []) (rw s refl)

-- behind a text the count goes on
pub valid_len_after : (xs ys : List ℕ) → IsUtf8 xs → utf8_valid_len (xs ++ ys) ≡ length xs + utf8_valid_len ys
valid_len_after xs ys u =
    let len = length-append xs ys in
    let most = utf8_valid_len_le ys in
    elim (cases_eq (utf8_valid_len ys) (length ys)) [
      | inl whole ↦
          utf8_valid_len-IsUtf8 (xs ++ ys) (IsUtf8-append xs ys u (text_of ys whole)) ∙ len ∙ ap (λ n. length xs + n) (sym whole)
      | inr part ↦
          let short : utf8_valid_len ys < length ys = omega arith in
          let v : IsValidUpTo (drop (length xs) (xs ++ ys)) (utf8_valid_len ys) =
          subst (λ l. IsValidUpTo l (utf8_valid_len ys)) (sym (drop_at xs ys (length xs) refl)) (valid_up_to_it ys short) in
          utf8_valid_len-IsValidUpTo (xs ++ ys) (length xs + utf8_valid_len ys)
          (valid_after (xs ++ ys) (length xs) (utf8_valid_len ys) (omega arith) (subst IsUtf8 (sym (take_at xs ys (length xs) refl)) u) v)
    ]

-- decoding begins anew behind a text
pub decode_utf8_after : (xs ys : List ℕ) → IsUtf8 xs → decode_utf8 (xs ++ ys) ≡ after_text (chars xs) (length xs) (decode_utf8 ys)
unfolding decode_utf8
decode_utf8_after xs ys u =
    let len = length-append xs ys in
    let count = valid_len_after xs ys u in
    elim (cases_eq (utf8_valid_len ys) (length ys)) [
      | inl whole ↦ rw (eq-eqb (utf8_valid_len (xs ++ ys)) (length (xs ++ ys)) (omega arith), eq-eqb (utf8_valid_len ys) (length ys) whole)
          (ap (λ t. Ok t) (chars-append xs ys u))
      | inr part ↦ rw (ne_eqb (utf8_valid_len (xs ++ ys)) (length (xs ++ ys)) (omega arith), ne_eqb (utf8_valid_len ys) (length ys) part)
          (ap (λ n. Err n) count)
    ]

-- where no byte is left over the bytes are UTF-8, and the other way round
pub decode_utf8_text : (bs : List ℕ) → IsUtf8 bs → decode_utf8 bs ≡ Ok (chars bs)
unfolding decode_utf8
decode_utf8_text bs u = rw (eq-eqb (utf8_valid_len bs) (length bs) (utf8_valid_len-IsUtf8 bs u)) refl

-- and where some are left over they are malformed there
pub fault_at : (bs : List ℕ) (p : ℕ) → p < length bs → p ≡ utf8_valid_len bs → decode_utf8 bs ≡ Err p
unfolding decode_utf8
fault_at bs p short e = rw (ne_eqb (utf8_valid_len bs) (length bs) (omega arith)) (ap (λ n. Err n) (sym e))

-- the first of the characters that spell a front
first_char : (cs bs : List ℕ) (n : ℕ) → scalars cs ≡ true → encodes cs ≡ take n bs → 0 < length (take n bs) → First decode_utf8 bs
first_char [] bs n s e some = absurd (omega (arith, ap length e))
first_char (c ∷ cs) bs n s e some =
    let ok = and_parts (scalar c) (scalars cs) s in
    let one = IsUtf8-encode c ok.0 in
    begins (record {
      sequence = encode c;
      rest = encodes cs ++ drop n bs;
      code = c;
      split = sym (take-append-drop n bs) ∙ ap (λ l. l ++ drop n bs) (sym e) ∙ append_assoc (encode c) (encodes cs) (drop n bs);
      some = omega (arith, length-encode c, len_utf8_bounds c);
      goes = λ ys. decode_utf8_after (encode c) ys one ∙ ap (λ t. after_text t (length (encode c)) (decode_utf8 ys)) (chars_of_one c ok.0);
    })

utf8_first : (bs : List ℕ) → First decode_utf8 bs
unfolding decode_utf8
utf8_first [] = empty refl
utf8_first (b ∷ bs) =
    let n = utf8_valid_len (b ∷ bs) in
    let most = utf8_valid_len_le (b ∷ bs) in
    elim (cases_lt 0 n) [
      | inl some ↦
          let u = valid_front (b ∷ bs) in
          first_char u.0 (b ∷ bs) n u.1.0 u.1.1 (omega (arith, length-take n (b ∷ bs)))
      | inr nothing ↦ none (rw (ne_eqb n (length (b ∷ bs)) (omega arith)) (ap (λ k. Err k) (omega arith)))
    ]

pub utf8_stepwise : IsStepwise decode_utf8
unfolding decode_utf8 utf8_valid_len chars
utf8_stepwise = record { nothing = refl; first = utf8_first }
