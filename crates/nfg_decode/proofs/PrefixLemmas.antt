-- The longest front that is a text.
use Rattle.std.proofs.Common.{◌≡◌, ℕ, zero, suc, ◌+◌, ◌-◌, ◌<◌, ◌≤◌, ◌⊎◌, inl, inr, true, false, cond, List, [], ◌∷◌, ◌++◌, length, take, refl, sym, ap, ◌∙◌, arith, length-append, append_assoc, ne_eqb}
use Rattle.std.proofs.lemmas.List.{append-nil, take_all, take_at}
use Rattle.std.proofs.lemmas.Bool.{cases_lt, cases_eq, and_left, and_right}
use Rattle.std.proofs.Math.Seq.{take-append-add}
use Rattle.std.specs.Prelude.{nat_eq, Ok, Err, is_ok}
use Rattle.std.specs.Result.{result_unwrap_or}
use Rattle.nfg_decode.specs.declared.encoding.Encoding.{Encoding}
use Rattle.nfg_decode.specs.declared.encoding.Encoding.TheVariants.{Utf8, Utf16, Utf16Le, Utf16Be, Latin1}
use Rattle.nfg_decode.specs.declared.utf16.ByteOrder.{ByteOrder}
use Rattle.nfg_decode.specs.declared.utf16.ByteOrder.TheVariants.{Little, Big}
use Rattle.nfg_decode.specs.Decoded.{Decoded, after_text}
use Rattle.nfg_decode.specs.Utf16.{mark, decode_utf16, decode_marked}
use Rattle.nfg_decode.specs.Encoding.{decode, text_len_up_to, decoded_prefix}
use Rattle.nfg_decode.specs.Reads.{utf16_form}
use Rattle.nfg_decode.specs.Mark.{IsUnmarked, Reduces}
use Rattle.nfg_decode.proofs.Stepwise.{Fails, fails, Breaks, breaks, joins, IsStepwise, malformed_past, after_text-nil}
use Rattle.nfg_decode.proofs.Utf8Laws.{utf8_stepwise}
use Rattle.nfg_decode.proofs.Utf16Laws.{utf16_stepwise}
use Rattle.nfg_decode.proofs.Utf16Tails.{decode-utf16_form}

-- a mark at the front is decided by two bytes
pub marked : (o : ByteOrder) (ys : List ℕ) → decode Utf16 (mark o ++ ys) ≡ after_text [] 2 (decode_utf16 o ys)
unfolding decode decode_marked
marked Little ys = refl
marked Big ys = refl

pub length-mark : (o : ByteOrder) → length (mark o) ≡ 2
length-mark Little = refl
length-mark Big = refl

-- bytes that begin with no mark are big-endian
pub unmarked : (b : List ℕ) → IsUnmarked b → decode Utf16 b ≡ decode_utf16 Big b
unfolding decode decode_marked
unmarked b u = rw (u.big, u.little) refl

-- one byte is no mark, and two bytes are one only if both agree
pub one_unmarked : (x : ℕ) → IsUnmarked (x ∷ [])
one_unmarked x = record { big = and_right (nat_eq 0xFE x) false refl; little = and_right (nat_eq 0xFF x) false refl }

pub low_unmarked : (x : ℕ) (b : List ℕ) → x < 0xFE → IsUnmarked (x ∷ b)
low_unmarked x [] h = one_unmarked x
low_unmarked x (y ∷ b) h = record { big = and_left (nat_eq 0xFE x) _ (ne_eqb 0xFE x (omega arith)); little = and_left (nat_eq 0xFF x) _ (ne_eqb 0xFF x (omega arith)) }

pub two_unmarked : (x y : ℕ) (b : List ℕ) → (x ≡ 0xFE → y ≡ 0xFF → ⊥) → (x ≡ 0xFF → y ≡ 0xFE → ⊥) → IsUnmarked (x ∷ y ∷ b)
two_unmarked x y b no_big no_little = record {
  big = elim (cases_eq x 0xFE) [
    | inr n ↦ and_left (nat_eq 0xFE x) _ (ne_eqb 0xFE x (λ e. n (sym e)))
    | inl e ↦ and_right (nat_eq 0xFE x) _ (and_left (nat_eq 0xFF y) true (ne_eqb 0xFF y (λ f. no_big e (sym f))))
  ];
  little = elim (cases_eq x 0xFF) [
    | inr n ↦ and_left (nat_eq 0xFF x) _ (ne_eqb 0xFF x (λ e. n (sym e)))
    | inl e ↦ and_right (nat_eq 0xFF x) _ (and_left (nat_eq 0xFE y) true (ne_eqb 0xFE y (λ f. no_little e (sym f))))
  ];
}

-- whether there is a mark
pub data Marks (b : List ℕ) : Type 0 where
  is_marked : (o : ByteOrder) (rest : List ℕ) → b ≡ mark o ++ rest → Marks b
  is_plain : IsUnmarked b → Marks b

marks_of_two : (x y : ℕ) (b : List ℕ) → Marks (x ∷ y ∷ b)
marks_of_two x y b = elim (cases_eq x 0xFE) [
  | inl e ↦ elim (cases_eq y 0xFF) [
    | inl f ↦ is_marked Big b (λ i. e i ∷ f i ∷ b)
    | inr n ↦ is_plain (two_unmarked x y b (λ _ f. n f) (λ g _. absurd (omega arith)))
  ]
  | inr m ↦ elim (cases_eq x 0xFF) [
    | inr k ↦ is_plain (two_unmarked x y b (λ e _. m e) (λ g _. k g))
    | inl e ↦ elim (cases_eq y 0xFE) [
      | inl f ↦ is_marked Little b (λ i. e i ∷ f i ∷ b)
      | inr n ↦ is_plain (two_unmarked x y b (λ g _. m g) (λ _ f. n f))
    ]
  ]
]

pub marks_of : (b : List ℕ) → Marks b
marks_of [] = is_plain (record { big = refl; little = refl })
marks_of (x ∷ []) = is_plain (one_unmarked x)
marks_of (x ∷ y ∷ b) = marks_of_two x y b

-- a front of bytes with no mark has none
pub unmarked_front : (b : List ℕ) (n : ℕ) → IsUnmarked b → decode Utf16 (take n b) ≡ decode_utf16 Big (take n b)
unmarked_front b zero u = unmarked [] (record { big = refl; little = refl })
unmarked_front [] (suc n) u = unmarked [] u
unmarked_front (x ∷ []) (suc zero) u = unmarked (x ∷ []) u
unmarked_front (x ∷ []) (suc (suc n)) u = unmarked (x ∷ []) u
unmarked_front (x ∷ y ∷ b) (suc zero) u = unmarked (x ∷ []) (one_unmarked x)
unmarked_front (x ∷ y ∷ b) (suc (suc n)) u = unmarked (x ∷ y ∷ take n b) (record { big = u.big; little = u.little })

-- what is malformed is so in each longer front
malformed_behind_mark : (o : ByteOrder) (b rest : List ℕ) (p n : ℕ) → b ≡ mark o ++ rest → decode Utf16 b ≡ Err p → p < n → n ≤ length b → decode Utf16 (take n b) ≡ Err p
malformed_behind_mark o b rest p n is e more l =
    let len = ap length is ∙ length-append (mark o) rest in
    let two = length-mark o in
    let f : Fails 2 (decode_utf16 o rest) p = fails [] 2 (decode_utf16 o rest) p (sym (marked o rest) ∙ ap (decode Utf16) (sym is) ∙ e) in
    let joined = f.joined in
    let apart : length (mark o) + (n - 2) ≡ n = omega arith in
    let cut : take n b ≡ mark o ++ take (n - 2) rest = (λ i. take (sym apart i) (is i)) ∙ take-append-add (mark o) rest (n - 2) in
    ap (decode Utf16) cut
    ∙ marked o (take (n - 2) rest)
    ∙ ap (λ r. after_text [] 2 r) (malformed_past (decode_utf16 o) (utf16_stepwise o) rest f.place (n - 2) f.is (omega arith) (omega arith))
    ∙ ap (λ m. Err m) joined

malformed_in_utf16 : (b : List ℕ) (p n : ℕ) → Marks b → decode Utf16 b ≡ Err p → p < n → n ≤ length b → decode Utf16 (take n b) ≡ Err p
malformed_in_utf16 b p n (is_marked o rest is) e more l = malformed_behind_mark o b rest p n is e more l
malformed_in_utf16 b p n (is_plain u) e more l =
    unmarked_front b n u ∙ malformed_past (decode_utf16 Big) (utf16_stepwise Big) b p n (sym (unmarked b u) ∙ e) more l

pub malformed_in_fronts : (e : Encoding) (b : List ℕ) (p n : ℕ) → decode e b ≡ Err p → p < n → n ≤ length b → decode e (take n b) ≡ Err p
unfolding decode
malformed_in_fronts Utf8 b p n e more l = malformed_past _ utf8_stepwise b p n e more l
malformed_in_fronts Utf16Le b p n e more l = malformed_past _ (utf16_stepwise Little) b p n e more l
malformed_in_fronts Utf16Be b p n e more l = malformed_past _ (utf16_stepwise Big) b p n e more l
malformed_in_fronts Latin1 b p n e more l = cc
malformed_in_fronts Utf16 b p n e more l = malformed_in_utf16 b p n (marks_of b) e more l

-- going down, the search stops at the first front that is a text
text_len_at : (e : Encoding) (b : List ℕ) (p m : ℕ) (t : List ℕ) → decode e (take p b) ≡ Ok t → ((k : ℕ) → p < k → k ≤ m → decode e (take k b) ≡ Err p) → p ≤ m
    → text_len_up_to e b m ≡ p
text_len_at e b p zero t front above l = omega arith
text_len_at e b p (suc m) t front above l = elim (cases_lt p (suc m)) [
  | inr top ↦
      let same : p ≡ suc m = omega arith in
      ap (λ r. cond (is_ok r) (suc m) (text_len_up_to e b m)) (ap (λ k. decode e (take k b)) (sym same) ∙ front) ∙ sym same
  | inl below ↦
      ap (λ r. cond (is_ok r) (suc m) (text_len_up_to e b m)) (above (suc m) below (omega arith))
      ∙ text_len_at e b p m t front (λ k h g. above k h (omega arith)) (omega arith)
]

pub prefix_of_text : (e : Encoding) (b t : List ℕ) → decode e b ≡ Ok t → decoded_prefix e b ≡ t
unfolding decoded_prefix
prefix_of_text e b t d =
    let whole : decode e (take (length b) b) ≡ Ok t = ap (decode e) (take_all (length b) b (omega arith)) ∙ d in
    let len = text_len_at e b (length b) (length b) t whole (λ k h g. absurd (omega arith)) (omega arith) in
    ap (λ n. result_unwrap_or (decode e (take n b)) []) len ∙ ap (λ r. result_unwrap_or r []) whole

pub prefix_of_fault : (e : Encoding) (b t : List ℕ) (p : ℕ) → decode e b ≡ Err p → p ≤ length b → decode e (take p b) ≡ Ok t → decoded_prefix e b ≡ t
unfolding decoded_prefix
prefix_of_fault e b t p d within front =
    let len = text_len_at e b p (length b) t front (λ k h g. malformed_in_fronts e b p k d h g) within in
    ap (λ n. result_unwrap_or (decode e (take n b)) []) len ∙ ap (λ r. result_unwrap_or r []) front

-- behind a text that no sequence follows there is no more
module _ (r : Encoding) (stepwise : IsStepwise (decode r)) (front text tail : List ℕ) (whole : decode r front ≡ Ok text) where
  pub behind_text : (ys : List ℕ) → decode r (front ++ ys) ≡ after_text text (length front) (decode r ys)
  behind_text ys = joins (decode r) stepwise front ys text whole

  pub prefix_of_open : (tail ≡ []) ⊎ (decode r tail ≡ Err 0) → decoded_prefix r (front ++ tail) ≡ text
  prefix_of_open cut = elim cut [
    | inl nothing ↦ ap (λ l. decoded_prefix r (front ++ l)) nothing ∙ ap (decoded_prefix r) (append-nil front) ∙ prefix_of_text r front text whole
    | inr fault ↦
        let at : length front + 0 ≡ length front = omega arith in
        let d : decode r (front ++ tail) ≡ Err (length front) = behind_text tail ∙ ap (λ x. after_text text (length front) x) fault ∙ ap (λ n. Err n) at in
        prefix_of_fault r (front ++ tail) text (length front) d (omega (arith, length-append front tail))
        (ap (decode r) (take_at front tail (length front) refl) ∙ whole)
  ]

-- encodings that decode each front alike have one prefix
text_len-same : (e r : Encoding) (b : List ℕ) (n : ℕ) → ((k : ℕ) → decode e (take k b) ≡ decode r (take k b)) → text_len_up_to e b n ≡ text_len_up_to r b n
text_len-same e r b zero same = refl
text_len-same e r b (suc n) same = λ i. cond (is_ok (same (suc n) i)) (suc n) (text_len-same e r b n same i)

pub prefix_same : (e r : Encoding) (b : List ℕ) → ((k : ℕ) → decode e (take k b) ≡ decode r (take k b)) → decoded_prefix e b ≡ decoded_prefix r b
unfolding decoded_prefix
prefix_same e r b same =
    let len = text_len-same e r b (length b) same in
    ap (λ n. result_unwrap_or (decode e (take n b)) []) len ∙ ap (λ d. result_unwrap_or d []) (same (text_len_up_to r b (length b)))

-- a mark is no part of the prefix
prefix_behind_mark : (o : ByteOrder) (b : List ℕ) (d : Decoded) → decode (utf16_form o) b ≡ d → decoded_prefix Utf16 (mark o ++ b) ≡ decoded_prefix (utf16_form o) b
prefix_behind_mark o b (Ok t) e =
    let plain = sym (decode-utf16_form o b) ∙ e in
    prefix_of_text Utf16 (mark o ++ b) t (marked o b ∙ ap (λ r. after_text [] 2 r) plain) ∙ sym (prefix_of_text (utf16_form o) b t e)
prefix_behind_mark o b (Err p) e =
    let plain = sym (decode-utf16_form o b) ∙ e in
    let k : Breaks (decode_utf16 o) (utf16_stepwise o) b p = breaks (decode_utf16 o) (utf16_stepwise o) b p plain in
    let within = k.within in
    let two = length-mark o in
    let cut : take (2 + p) (mark o ++ b) ≡ mark o ++ take p b = ap (λ n. take (n + p) (mark o ++ b)) (sym two) ∙ take-append-add (mark o) b p in
    prefix_of_fault Utf16 (mark o ++ b) k.text (2 + p) (marked o b ∙ ap (λ r. after_text [] 2 r) plain) (omega (arith, length-append (mark o) b))
    (ap (decode Utf16) cut ∙ marked o (take p b) ∙ ap (λ r. after_text [] 2 r) k.front)
    ∙ sym (prefix_of_fault (utf16_form o) b k.text p e within (decode-utf16_form o (take p b) ∙ k.front))

-- ---- what is to be read behind the mark

pub reduces_same : (e : Encoding) (b : List ℕ) → Reduces e b e b 0
reduces_same e b = record {
  len = omega arith;
  decodes = λ more. sym (after_text-nil (decode e (b ++ more)));
  prefix = λ more. refl;
}

pub reduces_marked : (o : ByteOrder) (b : List ℕ) → Reduces Utf16 (mark o ++ b) (utf16_form o) b 2
reduces_marked o b = record {
  len = omega (arith, length-append (mark o) b, length-mark o);
  decodes = λ more. ap (decode Utf16) (append_assoc (mark o) b more) ∙ marked o (b ++ more) ∙ ap (λ r. after_text [] 2 r) (sym (decode-utf16_form o (b ++ more)));
  prefix = λ more. ap (decoded_prefix Utf16) (append_assoc (mark o) b more) ∙ prefix_behind_mark o (b ++ more) (decode (utf16_form o) (b ++ more)) refl;
}

pub reduces_unmarked : (b : List ℕ) → ((more : List ℕ) → IsUnmarked (b ++ more)) → Reduces Utf16 b (utf16_form Big) b 0
reduces_unmarked b u = record {
  len = omega arith;
  decodes = λ more. unmarked (b ++ more) (u more) ∙ sym (decode-utf16_form Big (b ++ more)) ∙ sym (after_text-nil (decode (utf16_form Big) (b ++ more)));
  prefix = λ more. prefix_same Utf16 (utf16_form Big) (b ++ more) (λ k. unmarked_front (b ++ more) k (u more) ∙ sym (decode-utf16_form Big (take k (b ++ more))));
}

pub reduces_more : (e r : Encoding) (b body piece : List ℕ) (k : ℕ) → Reduces e b r body k → Reduces e (b ++ piece) r (body ++ piece) k
reduces_more e r b body piece k red = record {
  len = omega (arith, red.len, length-append b piece, length-append body piece);
  decodes = λ more. ap (decode e) (append_assoc b piece more) ∙ red.decodes (piece ++ more) ∙ ap (λ l. after_text [] k (decode r l)) (sym (append_assoc body piece more));
  prefix = λ more. ap (decoded_prefix e) (append_assoc b piece more) ∙ red.prefix (piece ++ more) ∙ ap (decoded_prefix r) (sym (append_assoc body piece more));
}

-- ---- where decoding fails there is a text before

pub record FaultFront (e : Encoding) (b : List ℕ) (p : ℕ) : Type 0 where
  pub within : p ≤ length b
  pub text : List ℕ
  pub front : decode e (take p b) ≡ Ok text

front_of : (e : Encoding) (b : List ℕ) (p : ℕ) → IsStepwise (decode e) → decode e b ≡ Err p → FaultFront e b p
front_of e b p stepwise d =
    let k : Breaks (decode e) stepwise b p = breaks (decode e) stepwise b p d in
    record { within = k.within; text = k.text; front = k.front }

front_in_utf16 : (b : List ℕ) (p : ℕ) → Marks b → decode Utf16 b ≡ Err p → FaultFront Utf16 b p
front_in_utf16 b p (is_marked o rest is) d =
    let two = length-mark o in
    let len = ap length is ∙ length-append (mark o) rest in
    let f : Fails 2 (decode_utf16 o rest) p = fails [] 2 (decode_utf16 o rest) p (sym (marked o rest) ∙ ap (decode Utf16) (sym is) ∙ d) in
    let joined = f.joined in
    let k : Breaks (decode_utf16 o) (utf16_stepwise o) rest f.place = breaks (decode_utf16 o) (utf16_stepwise o) rest f.place f.is in
    let within = k.within in
    let apart : length (mark o) + f.place ≡ p = omega arith in
    let cut : take p b ≡ mark o ++ take f.place rest = (λ i. take (sym apart i) (is i)) ∙ take-append-add (mark o) rest f.place in
    record {
      within = omega arith;
      text = k.text;
      front = ap (decode Utf16) cut ∙ marked o (take f.place rest) ∙ ap (λ r. after_text [] 2 r) k.front;
    }
front_in_utf16 b p (is_plain u) d =
    let k : Breaks (decode_utf16 Big) (utf16_stepwise Big) b p = breaks (decode_utf16 Big) (utf16_stepwise Big) b p (sym (unmarked b u) ∙ d) in
    record { within = k.within; text = k.text; front = unmarked_front b p u ∙ k.front }

pub fault_front : (e : Encoding) (b : List ℕ) (p : ℕ) → decode e b ≡ Err p → FaultFront e b p
unfolding decode
fault_front Utf8 b p d = front_of Utf8 b p utf8_stepwise d
fault_front Utf16 b p d = front_in_utf16 b p (marks_of b) d
fault_front Utf16Le b p d = front_of Utf16Le b p (utf16_stepwise Little) d
fault_front Utf16Be b p d = front_of Utf16Be b p (utf16_stepwise Big) d
fault_front Latin1 b p d = cc
