-- Where UTF-8 breaks off: what more bytes can mend, and what they cannot.
use Rattle.std.proofs.Common.{◌≡◌, ℕ, zero, suc, ◌+◌, ◌-◌, ◌<◌, ◌≤◌, ◌⊎◌, inl, inr, Bool, true, false, cond, List, [], ◌∷◌, ◌++◌, length, take, refl, sym, ap, ◌∙◌, subst, arith, le-leb, leb-true, le-ltb, ne_eqb, length-append, length-take, IsUtf8}
use Rattle.std.proofs.lemmas.Bool.{cases_lt, cond_both, and_parts}
use Rattle.std.proofs.lemmas.List.{take-append-le}
use Rattle.std.proofs.Math.Seq.{take-append-add}
use Rattle.std.proofs.lemmas.Str.{utf8_valid_len_le}
use Rattle.std.specs.Prelude.{◌==◌, Ok, Err, Option, Some, None}
use Rattle.std.specs.Int.{is_in_range}
use Rattle.std.specs.Str.{chars}
use Rattle.std.specs.Str.Lossy.{utf8_valid_len, utf8_error_len, second_byte_min, second_byte_max}
use Rattle.simdutf8.specs.Steps.{IsContinuation, IsClosed, least_after, most_after, Step, first, second, later}
use Rattle.simdutf8.proofs.Chars.{least_is, most_is, StepsThen-IsUtf8}
use Rattle.nfg_decode.specs.declared.encoding.Encoding.TheVariants.{Utf8}
use Rattle.nfg_decode.specs.Utf8.{decode_utf8}
use Rattle.nfg_decode.specs.Encoding.{decode, AreBytes}
use Rattle.nfg_decode.specs.Reads.{IsUnfinished}
use Rattle.nfg_decode.proofs.ReadsLemmas.{IsUnfinished-nil, one_byte, two_bytes, three_bytes}
use Rattle.nfg_decode.proofs.Utf8Laws.{valid_front, none_longer, decode_utf8_text}

-- the place is the length of the longest front that is UTF-8
pub valid_len_at : (bs : List ℕ) (p : ℕ) → decode_utf8 bs ≡ Err p → utf8_valid_len bs ≡ p
unfolding decode_utf8
valid_len_at bs p = cond_both (utf8_valid_len bs == length bs) (Ok (chars bs)) (Err (utf8_valid_len bs)) (λ r. r ≡ Err p → utf8_valid_len bs ≡ p) (λ _ e. cc) (λ _ e. cc)

-- no front is a text
abbrev NoText : List ℕ → Type 0
NoText r = (k : ℕ) → 0 < k → k ≤ length r → IsUtf8 (take k r) → ⊥

no_text : (r : List ℕ) → decode_utf8 r ≡ Err 0 → NoText r
no_text r e k some within u = let at = valid_len_at r 0 e in none_longer r k (omega arith) within u

refused : (r : List ℕ) → 0 < length r → NoText r → decode_utf8 r ≡ Err 0
unfolding decode_utf8
refused r some none = elim (cases_lt 0 (utf8_valid_len r)) [
  | inl more ↦ absurd (none (utf8_valid_len r) more (utf8_valid_len_le r) (valid_front r))
  | inr nothing ↦ rw (ne_eqb (utf8_valid_len r) (length r) (omega arith)) (ap (λ k. Err k) (omega arith))
]

-- ---- one character, by the steps from byte to byte

abbrev pub Follows : ℕ → ℕ → Type 0
Follows a b = (least_after a ≤ b) × (b ≤ most_after a)

abbrev pub Leads : ℕ → Type 0
Leads a = (0xC2 ≤ a) × (a ≤ 0xF4)

closed_0 : IsClosed 0 0 0
closed_0 = (omega arith, omega arith, omega arith)

one_is : (a : ℕ) → a < 0x80 → IsUtf8 (a ∷ [])
one_is a h = (StepsThen-IsUtf8 (a ∷ [])).0 (first closed_0 (inl h), (omega arith, omega arith, omega arith))

two_are : (a b : ℕ) → Leads a → a < 0xE0 → Follows a b → IsUtf8 (a ∷ b ∷ [])
two_are a b l h f =
    let m = most_is a in
    (StepsThen-IsUtf8 (a ∷ b ∷ [])).0 (first closed_0 (inr (omega arith)), (second (omega arith, omega arith) l f, (omega arith, omega arith, omega arith)))

three_are : (a b d : ℕ) → Leads a → 0xE0 ≤ a → a < 0xF0 → Follows a b → IsContinuation d → IsUtf8 (a ∷ b ∷ d ∷ [])
three_are a b d l e h f g =
    let k = least_is a in
    let m = most_is a in
    (StepsThen-IsUtf8 (a ∷ b ∷ d ∷ [])).0
    (first closed_0 (inr (omega arith)), (second (omega arith, omega arith) l f, (later (inr e) (omega arith, omega arith) g, (omega arith, omega arith, omega arith))))

four_are : (a b d e : ℕ) → Leads a → 0xF0 ≤ a → Follows a b → IsContinuation d → IsContinuation e → IsUtf8 (a ∷ b ∷ d ∷ e ∷ [])
four_are a b d e l h f g j =
    let k = least_is a in
    let m = most_is a in
    (StepsThen-IsUtf8 (a ∷ b ∷ d ∷ e ∷ [])).0
    (first closed_0 (inr (omega arith)), (second (omega arith, omega arith) l f, (later (inr (omega arith)) (omega arith, omega arith) g, (later (inl h) g j, (omega arith, omega arith, omega arith)))))

-- the first two bytes of a longer text
lead : (a b : ℕ) → Step 0 0 0 a → Step 0 0 a b → (a < 0x80) ⊎ (Leads a × Follows a b)
lead a b s t = elim s [
  | second p q r ↦ absurd (omega arith)
  | later p q r ↦ absurd (omega arith)
  | first p q ↦ elim q [
    | inl h ↦ inl h
    | inr h ↦ elim t [
      | first u v ↦ absurd (omega arith)
      | second u v w ↦ inr (v, w)
      | later u v w ↦ absurd (omega arith)
    ]
  ]
]

third : (a b d : ℕ) → Leads a → Follows a b → Step 0 a b d → (a < 0xE0) ⊎ ((0xE0 ≤ a) × IsContinuation d)
third a b d l f s =
    let m = most_is a in
    elim s [
      | first p q ↦ inl (omega arith)
      | second p q r ↦ absurd (omega arith)
      | later p q r ↦ inr (omega arith, r)
    ]

fourth : (a b d e : ℕ) → Leads a → Follows a b → 0xE0 ≤ a → IsContinuation d → Step a b d e → (a < 0xF0) ⊎ ((0xF0 ≤ a) × IsContinuation e)
fourth a b d e l f h g s =
    let m = most_is a in
    elim s [
      | first p q ↦ inl (omega arith)
      | second p q r ↦ absurd (omega arith)
      | later p q r ↦ inr (omega arith, r)
    ]

-- ---- std's error length

in_range : (lo hi c : ℕ) → lo ≤ c → c ≤ hi → is_in_range lo hi c ≡ true
in_range lo hi c l h = rw (le-leb lo c l, le-leb c hi h) refl

from_range : (lo hi c : ℕ) → is_in_range lo hi c ≡ true → (lo ≤ c) × (c ≤ hi)
from_range lo hi c e = let parts = and_parts _ _ e in (leb-true lo c parts.0, leb-true c hi parts.1)

guard : (b : Bool) (x : Option ℕ) (k : ℕ) → cond b x (Some k) ≡ None → (b ≡ true) × (x ≡ None)
guard true x k e = (refl, e)
guard false x k e = cc

error_len_1 : (a : ℕ) → utf8_error_len (a ∷ []) ≡ cond (is_in_range 0xC2 0xF4 a) None (Some 1)
unfolding utf8_error_len
error_len_1 a = refl

error_len_2 : (a b : ℕ) → utf8_error_len (a ∷ b ∷ []) ≡ cond (is_in_range 0xC2 0xF4 a) (cond (is_in_range (second_byte_min a) (second_byte_max a) b) None (Some 1)) (Some 1)
unfolding utf8_error_len
error_len_2 a b = refl

error_len_3 : (a b d : ℕ) → utf8_error_len (a ∷ b ∷ d ∷ []) ≡ cond (is_in_range 0xC2 0xF4 a) (cond (is_in_range (second_byte_min a) (second_byte_max a) b) (cond (is_in_range 0x80 0xBF d) None (Some 2)) (Some 1)) (Some 1)
unfolding utf8_error_len
error_len_3 a b d = refl

error_len_4 : (a b d e : ℕ) (r : List ℕ) → utf8_error_len (a ∷ b ∷ d ∷ e ∷ r) ≡ cond (is_in_range 0xC2 0xF4 a) (cond (is_in_range (second_byte_min a) (second_byte_max a) b) (cond (is_in_range 0x80 0xBF d) (Some 3) (Some 2)) (Some 1)) (Some 1)
unfolding utf8_error_len
error_len_4 a b d e r =
    let n = suc (suc (suc (suc (length r)))) in
    rw (ne_eqb n 0 (omega arith), le-ltb n 2 (omega arith), le-ltb n 3 (omega arith), le-ltb n 4 (omega arith)) refl

-- bytes that a longer text begins with, and that are no text, have no error length
cut_has_none : (r z : List ℕ) → 0 < length r → 0 < length z → NoText r → IsUtf8 (r ++ z) → utf8_error_len r ≡ None
cut_has_none [] z some more n u = absurd (omega arith)
cut_has_none (a ∷ r) [] some more n u = absurd (omega arith)
cut_has_none (a ∷ []) (b ∷ z) some more n u =
    let s = (StepsThen-IsUtf8 (a ∷ b ∷ z)).1 u in
    elim (lead a b s.0 s.1.0) [
      | inl h ↦ absurd (n 1 (omega arith) (omega arith) (one_is a h))
      | inr h ↦ error_len_1 a ∙ (rw (in_range 0xC2 0xF4 a h.0.0 h.0.1) refl)
    ]
cut_has_none (a ∷ b ∷ []) (d ∷ z) some more n u =
    let s = (StepsThen-IsUtf8 (a ∷ b ∷ d ∷ z)).1 u in
    elim (lead a b s.0 s.1.0) [
      | inl h ↦ absurd (n 1 (omega arith) (omega arith) (one_is a h))
      | inr h ↦ error_len_2 a b ∙ (rw (in_range 0xC2 0xF4 a h.0.0 h.0.1, in_range (second_byte_min a) (second_byte_max a) b h.1.0 h.1.1) refl)
    ]
cut_has_none (a ∷ b ∷ d ∷ []) (e ∷ z) some more n u =
    let s = (StepsThen-IsUtf8 (a ∷ b ∷ d ∷ e ∷ z)).1 u in
    elim (lead a b s.0 s.1.0) [
      | inl h ↦ absurd (n 1 (omega arith) (omega arith) (one_is a h))
      | inr h ↦ elim (third a b d h.0 h.1 s.1.1.0) [
        | inl below ↦ absurd (n 2 (omega arith) (omega arith) (two_are a b h.0 below h.1))
        | inr g ↦ error_len_3 a b d ∙ (rw (in_range 0xC2 0xF4 a h.0.0 h.0.1, in_range (second_byte_min a) (second_byte_max a) b h.1.0 h.1.1, in_range 0x80 0xBF d (omega arith) (omega arith)) refl)
      ]
    ]
cut_has_none (a ∷ b ∷ d ∷ e ∷ r) (c ∷ z) some more n u =
    let s = (StepsThen-IsUtf8 (a ∷ b ∷ d ∷ e ∷ (r ++ (c ∷ z)))).1 u in
    elim (lead a b s.0 s.1.0) [
      | inl h ↦ absurd (n 1 (omega arith) (omega arith) (one_is a h))
      | inr h ↦ elim (third a b d h.0 h.1 s.1.1.0) [
        | inl below ↦ absurd (n 2 (omega arith) (omega arith) (two_are a b h.0 below h.1))
        | inr g ↦ elim (fourth a b d e h.0 h.1 g.0 g.1 s.1.1.1.0) [
          | inl low ↦ absurd (n 3 (omega arith) (omega arith) (three_are a b d h.0 g.0 low h.1 g.1))
          | inr j ↦ absurd (n 4 (omega arith) (omega arith) (four_are a b d e h.0 j.0 h.1 g.1 j.1))
        ]
      ]
    ]

-- so where there is one no byte can mend them
stays_refused : (r more : List ℕ) (k : ℕ) → 0 < length r → NoText r → utf8_error_len r ≡ Some k → NoText (r ++ more)
stays_refused r more k some n e m pos within u = elim (cases_lt (length r) m) [
  | inr short ↦ n m pos short (subst IsUtf8 (take-append-le m r more short) u)
  | inl long ↦
      let apart : length r + (m - length r) ≡ m = omega arith in
      let split : take m (r ++ more) ≡ r ++ take (m - length r) more = ap (λ j. take j (r ++ more)) (sym apart) ∙ take-append-add r more (m - length r) in
      let len = length-append r more in
      let nothing = cut_has_none r (take (m - length r) more) some (omega (arith, length-take (m - length r) more)) n (subst IsUtf8 split u) in
      cc
]

pub error_len_stays : (r more : List ℕ) (k : ℕ) → decode_utf8 r ≡ Err 0 → utf8_error_len r ≡ Some k → decode_utf8 (r ++ more) ≡ Err 0
unfolding utf8_error_len
error_len_stays [] more k e l = cc
error_len_stays (a ∷ r) more k e l =
    refused (a ∷ (r ++ more)) (omega arith) (stays_refused (a ∷ r) more k (omega arith) (no_text (a ∷ r) e) l)

-- ---- what more bytes mend

pub decode_is_utf8 : (b : List ℕ) → decode Utf8 b ≡ decode_utf8 b
unfolding decode
decode_is_utf8 b = refl

mended : (r more : List ℕ) → length r ≤ 3 → decode_utf8 r ≡ Err 0 → AreBytes more → IsUtf8 (r ++ more) → IsUnfinished Utf8 r
mended r more short e bytes whole = record {
  short = short;
  cut = inr (decode_is_utf8 r ∙ e);
  more = more;
  bytes = bytes;
  text = chars (r ++ more);
  completed = decode_is_utf8 (r ++ more) ∙ decode_utf8_text (r ++ more) whole;
}

continues_80 : IsContinuation 0x80
continues_80 = (omega arith, omega arith)

follows_least : (a : ℕ) → Follows a (least_after a)
follows_least a = let k = least_is a in let m = most_is a in (omega arith, omega arith)

least_small : (a : ℕ) → least_after a < 256
least_small a = let k = least_is a in omega arith

after_one : (a : ℕ) → decode_utf8 (a ∷ []) ≡ Err 0 → Leads a → IsUnfinished Utf8 (a ∷ [])
after_one a e l =
    let b = least_after a in
    let f = follows_least a in
    let small = least_small a in
    elim (cases_lt a 0xE0) [
      | inl two ↦ mended (a ∷ []) (b ∷ []) (omega arith) e (one_byte b small) (two_are a b l two f)
      | inr more ↦ elim (cases_lt a 0xF0) [
        | inl three ↦ mended (a ∷ []) (b ∷ 0x80 ∷ []) (omega arith) e (two_bytes b 0x80 small (omega arith)) (three_are a b 0x80 l more three f continues_80)
        | inr four ↦ mended (a ∷ []) (b ∷ 0x80 ∷ 0x80 ∷ []) (omega arith) e (three_bytes b 0x80 0x80 small (omega arith) (omega arith)) (four_are a b 0x80 0x80 l four f continues_80 continues_80)
      ]
    ]

after_two : (a b : ℕ) → decode_utf8 (a ∷ b ∷ []) ≡ Err 0 → Leads a → Follows a b → IsUnfinished Utf8 (a ∷ b ∷ [])
after_two a b e l f = elim (cases_lt a 0xE0) [
  | inl two ↦ absurd (no_text (a ∷ b ∷ []) e 2 (omega arith) (omega arith) (two_are a b l two f))
  | inr more ↦ elim (cases_lt a 0xF0) [
    | inl three ↦ mended (a ∷ b ∷ []) (0x80 ∷ []) (omega arith) e (one_byte 0x80 (omega arith)) (three_are a b 0x80 l more three f continues_80)
    | inr four ↦ mended (a ∷ b ∷ []) (0x80 ∷ 0x80 ∷ []) (omega arith) e (two_bytes 0x80 0x80 (omega arith) (omega arith)) (four_are a b 0x80 0x80 l four f continues_80 continues_80)
  ]
]

after_three : (a b d : ℕ) → decode_utf8 (a ∷ b ∷ d ∷ []) ≡ Err 0 → Leads a → Follows a b → IsContinuation d → IsUnfinished Utf8 (a ∷ b ∷ d ∷ [])
after_three a b d e l f g = elim (cases_lt a 0xE0) [
  | inl two ↦ absurd (no_text (a ∷ b ∷ d ∷ []) e 2 (omega arith) (omega arith) (two_are a b l two f))
  | inr more ↦ elim (cases_lt a 0xF0) [
    | inl three ↦ absurd (no_text (a ∷ b ∷ d ∷ []) e 3 (omega arith) (omega arith) (three_are a b d l more three f g))
    | inr four ↦ mended (a ∷ b ∷ d ∷ []) (0x80 ∷ []) (omega arith) e (one_byte 0x80 (omega arith)) (four_are a b d 0x80 l four f g continues_80)
  ]
]

-- where there is no error length more bytes can complete them
pub no_error_len_mends : (r : List ℕ) → decode_utf8 r ≡ Err 0 → utf8_error_len r ≡ None → IsUnfinished Utf8 r
no_error_len_mends [] e n = IsUnfinished-nil Utf8
no_error_len_mends (a ∷ []) e n =
    let g = guard _ None 1 (sym (error_len_1 a) ∙ n) in
    after_one a e (from_range 0xC2 0xF4 a g.0)
no_error_len_mends (a ∷ b ∷ []) e n =
    let g = guard (is_in_range 0xC2 0xF4 a) _ 1 (sym (error_len_2 a b) ∙ n) in
    let h = guard (is_in_range (second_byte_min a) (second_byte_max a) b) None 1 g.1 in
    after_two a b e (from_range 0xC2 0xF4 a g.0) (from_range (second_byte_min a) (second_byte_max a) b h.0)
no_error_len_mends (a ∷ b ∷ d ∷ []) e n =
    let g = guard (is_in_range 0xC2 0xF4 a) _ 1 (sym (error_len_3 a b d) ∙ n) in
    let h = guard (is_in_range (second_byte_min a) (second_byte_max a) b) _ 1 g.1 in
    let j = guard (is_in_range 0x80 0xBF d) None 2 h.1 in
    let range = from_range 0x80 0xBF d j.0 in
    after_three a b d e (from_range 0xC2 0xF4 a g.0) (from_range (second_byte_min a) (second_byte_max a) b h.0) (omega arith, omega arith)
no_error_len_mends (a ∷ b ∷ d ∷ c ∷ r) e n =
    let g = guard (is_in_range 0xC2 0xF4 a) _ 1 (sym (error_len_4 a b d c r) ∙ n) in
    let h = guard (is_in_range (second_byte_min a) (second_byte_max a) b) _ 1 g.1 in
    let j = guard (is_in_range 0x80 0xBF d) _ 2 h.1 in
    cc

-- ---- bytes that begin a character and end inside it

module _ (a b d : ℕ) where
  no_one : 0xC2 ≤ a → NoText (a ∷ [])
  no_one l zero s w u = omega arith
  no_one l (suc zero) s w u = let closed = ((StepsThen-IsUtf8 (a ∷ [])).1 u).1 in omega arith
  no_one l (suc (suc k)) s w u = omega arith

  no_two : 0xE0 ≤ a → NoText (a ∷ b ∷ [])
  no_two l zero s w u = omega arith
  no_two l (suc zero) s w u = let closed = ((StepsThen-IsUtf8 (a ∷ [])).1 u).1 in omega arith
  no_two l (suc (suc zero)) s w u = let closed = ((StepsThen-IsUtf8 (a ∷ b ∷ [])).1 u).1.1 in omega arith
  no_two l (suc (suc (suc k))) s w u = omega arith

  no_three : 0xF0 ≤ a → NoText (a ∷ b ∷ d ∷ [])
  no_three l zero s w u = omega arith
  no_three l (suc zero) s w u = let closed = ((StepsThen-IsUtf8 (a ∷ [])).1 u).1 in omega arith
  no_three l (suc (suc zero)) s w u = let closed = ((StepsThen-IsUtf8 (a ∷ b ∷ [])).1 u).1.1 in omega arith
  no_three l (suc (suc (suc zero))) s w u = let closed = ((StepsThen-IsUtf8 (a ∷ b ∷ d ∷ [])).1 u).1.1.1 in omega arith
  no_three l (suc (suc (suc (suc k)))) s w u = omega arith

  pub cut_one : Leads a → IsUnfinished Utf8 (a ∷ [])
  cut_one l = after_one a (refused (a ∷ []) (omega arith) (no_one l.0)) l

  pub cut_two : Leads a → 0xE0 ≤ a → Follows a b → IsUnfinished Utf8 (a ∷ b ∷ [])
  cut_two l high f = after_two a b (refused (a ∷ b ∷ []) (omega arith) (no_two high)) l f

  pub cut_three : Leads a → 0xF0 ≤ a → Follows a b → (0x80 ≤ d) × (d ≤ 0xBF) → IsUnfinished Utf8 (a ∷ b ∷ d ∷ [])
  cut_three l high f g = after_three a b d (refused (a ∷ b ∷ d ∷ []) (omega arith) (no_three high)) l f (omega arith, omega arith)
