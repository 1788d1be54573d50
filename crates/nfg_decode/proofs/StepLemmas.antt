-- One byte behind an unfinished sequence.
use Rattle.std.proofs.Common.{◌≡◌, ℕ, ◌+◌, ◌-◌, ◌*◌, ◌/◌, ◌%◌, ◌<◌, ◌≤◌, inl, inr, true, false, List, [], ◌∷◌, ◌++◌, length, get_or, drop, refl, sym, ap, ◌∙◌, subst, arith, le-leb, lt-ltb, le-ltb, length-append}
use Rattle.std.proofs.lemmas.Bool.{cases_lt}
use Rattle.std.proofs.lemmas.List.{append-nil, take_all, drop_all}
use Rattle.std.proofs.lemmas.Str.{IsUtf8-encode}
use Rattle.std.specs.Prelude.{Some, None, Ok}
use Rattle.simdutf8.proofs.Chars.{least_is, most_is}
use lib.Utf8.{scalar, encode, low_scalar}
use Rattle.nfg_decode.specs.declared.encoding.Encoding.{Encoding}
use Rattle.nfg_decode.specs.declared.encoding.Encoding.TheVariants.{Utf8}
use Rattle.nfg_decode.specs.declared.tail.Tail.{Tail}
use Rattle.nfg_decode.specs.declared.tail.Tail.TheVariants.{Empty}
use Rattle.nfg_decode.specs.declared.reading.Form.{Form}
use Rattle.nfg_decode.specs.declared.state.State.{State}
use Rattle.nfg_decode.specs.declared.step.Step.{Step}
use Rattle.nfg_decode.specs.declared.step.Step.TheVariants.{Whole, Held, Other}
use Rattle.nfg_decode.specs.Encoding.{decode}
use Rattle.nfg_decode.specs.Reads.{IsUnfinished}
use Rattle.nfg_decode.specs.Reading.{as_encoding, ReadsOn}
use Rattle.nfg_decode.specs.State.{IsOpen, HasAdvanced, StepsOn, open_next}
use Rattle.nfg_decode.specs.Step.{StepsTo}
use Rattle.nfg_decode.specs.Tail.{bytes_of}
use Rattle.nfg_decode.proofs.StateLemmas.{between, ready_by_form, still_open}
use Rattle.nfg_decode.proofs.ReadsLemmas.{decode-nil, IsUnfinished-end}
use Rattle.nfg_decode.proofs.Utf8Laws.{decode_utf8_text, chars_of_one}
use Rattle.nfg_decode.proofs.Utf8Tails.{decode_is_utf8, Leads, Follows}

-- bytes that spell one character
spelled : (c : ℕ) (bytes : List ℕ) → scalar c ≡ true → encode c ≡ bytes → decode Utf8 bytes ≡ Ok (c ∷ [])
spelled c bytes s e =
    subst (λ b. decode Utf8 b ≡ Ok (c ∷ [])) e (decode_is_utf8 (encode c) ∙ decode_utf8_text (encode c) (IsUtf8-encode c s) ∙ ap (λ t. Ok t) (chars_of_one c s))

high_scalar : (c : ℕ) → 0xE000 ≤ c → c < 0x110000 → scalar c ≡ true
high_scalar c l h = rw (le-ltb c 0xD800 (omega arith), le-leb 0xE000 c l, lt-ltb c 0x110000 h) refl

pub spells_one : (c : ℕ) → c < 0x80 → encode c ≡ c ∷ []
unfolding encode
spells_one c h = rw (lt-ltb c 128 h) refl

pub spells_two : (a b c : ℕ) → 0x80 ≤ c → c < 0x800 → 192 + c / 64 ≡ a → 128 + c % 64 ≡ b → encode c ≡ a ∷ b ∷ []
unfolding encode
spells_two a b c l h first second = rw (le-ltb c 128 l, lt-ltb c 2048 h) (λ i. first i ∷ second i ∷ [])

pub spells_three : (a b d c : ℕ) → 0x800 ≤ c → c < 0x10000 → 224 + c / 4096 ≡ a → 128 + c / 64 % 64 ≡ b → 128 + c % 64 ≡ d → encode c ≡ a ∷ b ∷ d ∷ []
unfolding encode
spells_three a b d c l h first second third = rw (le-ltb c 128 (omega arith), le-ltb c 2048 l, lt-ltb c 65536 h) (λ i. first i ∷ second i ∷ third i ∷ [])

pub spells_four : (a b d e c : ℕ) → 0x10000 ≤ c → 240 + c / 262144 ≡ a → 128 + c / 4096 % 64 ≡ b → 128 + c / 64 % 64 ≡ d → 128 + c % 64 ≡ e → encode c ≡ a ∷ b ∷ d ∷ e ∷ []
unfolding encode
spells_four a b d e c l first second third fourth =
    rw (le-ltb c 128 (omega arith), le-ltb c 2048 (omega arith), le-ltb c 65536 l) (λ i. first i ∷ second i ∷ third i ∷ fourth i ∷ [])

pub one_whole : (a : ℕ) → a < 0x80 → decode Utf8 (a ∷ []) ≡ Ok (a ∷ [])
one_whole a h = spelled a (a ∷ []) (low_scalar a (omega arith)) (spells_one a h)

pub two_whole : (a b c : ℕ) → Leads a → a < 0xE0 → Follows a b → c ≡ (a - 0xC0) * 0x40 + (b - 0x80) → decode Utf8 (a ∷ b ∷ []) ≡ Ok (c ∷ [])
two_whole a b c l h f is =
    let least = least_is a in
    let most = most_is a in
    spelled c (a ∷ b ∷ []) (low_scalar c (omega arith)) (spells_two a b c (omega arith) (omega arith) (omega arith) (omega arith))

-- no three bytes spell a surrogate
three_scalar : (a b d c : ℕ) → 0xE0 ≤ a → a < 0xF0 → Follows a b → (0x80 ≤ d) × (d ≤ 0xBF) → c ≡ (a - 0xE0) * 0x1000 + (b - 0x80) * 0x40 + (d - 0x80) → scalar c ≡ true
three_scalar a b d c l h f g is =
    let least = least_is a in
    let most = most_is a in
    elim (cases_lt a 0xEE) [
      | inl low ↦ low_scalar c (omega arith)
      | inr high ↦ high_scalar c (omega arith) (omega arith)
    ]

pub three_whole : (a b d c : ℕ) → 0xE0 ≤ a → a < 0xF0 → Follows a b → (0x80 ≤ d) × (d ≤ 0xBF) → c ≡ (a - 0xE0) * 0x1000 + (b - 0x80) * 0x40 + (d - 0x80)
    → decode Utf8 (a ∷ b ∷ d ∷ []) ≡ Ok (c ∷ [])
three_whole a b d c l h f g is =
    let least = least_is a in
    let most = most_is a in
    spelled c (a ∷ b ∷ d ∷ []) (three_scalar a b d c l h f g is) (spells_three a b d c (omega arith) (omega arith) (omega arith) (omega arith) (omega arith))

pub four_whole : (a b d e c : ℕ) → 0xF0 ≤ a → a ≤ 0xF4 → Follows a b → (0x80 ≤ d) × (d ≤ 0xBF) → (0x80 ≤ e) × (e ≤ 0xBF)
    → c ≡ (a - 0xF0) * 0x40000 + (b - 0x80) * 0x1000 + (d - 0x80) * 0x40 + (e - 0x80) → decode Utf8 (a ∷ b ∷ d ∷ e ∷ []) ≡ Ok (c ∷ [])
four_whole a b d e c l h f g j is =
    let least = least_is a in
    let most = most_is a in
    spelled c (a ∷ b ∷ d ∷ e ∷ []) (high_scalar c (omega arith) (omega arith)) (spells_four a b d e c (omega arith) (omega arith) (omega arith) (omega arith) (omega arith))

-- ---- what is read then

module _ (e : Encoding) (bytes old : List ℕ) where
  whole_read : (new : List ℕ) (code n : ℕ) → decode e bytes ≡ Ok (code ∷ []) → n ≡ length bytes → new ≡ old ++ code ∷ [] → ReadsOn e bytes old new (record { settled = n; tail = Empty; is_malformed = false })
  whole_read new code n is len added = record {
    reads = record {
      within = omega arith;
      text = code ∷ [];
      front = ap (decode e) (take_all n bytes (omega arith)) ∙ is;
      added = added;
      behind = subst (λ k. IsUnfinished e (drop k bytes)) (sym len) (IsUnfinished-end e bytes);
    };
    held = λ _. subst (λ k. [] ≡ drop k bytes) (sym len) (sym (drop_all (length bytes) bytes (omega arith)));
  }

  held_read : (tail : Tail) → bytes_of tail ≡ bytes → IsUnfinished e bytes → ReadsOn e bytes old old (record { settled = 0; tail = tail; is_malformed = false })
  held_read tail is unfinished = record {
    reads = record { within = omega arith; text = []; front = decode-nil e; added = sym (append-nil old); behind = unfinished };
    held = λ _. is;
  }

-- a piece of one byte
one_item : (l : List ℕ) → 1 ≤ length l → length l < 2 → l ≡ get_or l 0 0 ∷ []
one_item [] some few = absurd (omega arith)
one_item (x ∷ []) some few = refl
one_item (x ∷ y ∷ l) some few = absurd (omega arith)

module _ (e : Encoding) (held piece old : List ℕ) (some : 1 ≤ length piece) (few : length piece < 2) where
  abbrev joined : List ℕ
  joined = held ++ get_or piece 0 0 ∷ []

  whole_read_on : (new : List ℕ) (code n : ℕ) → decode e joined ≡ Ok (code ∷ []) → n ≡ length held + 1 → new ≡ old ++ code ∷ []
      → ReadsOn e (held ++ piece) old new (record { settled = n; tail = Empty; is_malformed = false })
  whole_read_on new code n is len added =
      subst (λ l. ReadsOn e (held ++ l) old new (record { settled = n; tail = Empty; is_malformed = false })) (sym (one_item piece some few))
      (whole_read e joined old new code n is (omega (arith, length-append held (get_or piece 0 0 ∷ []))) added)

  held_read_on : (tail : Tail) → bytes_of tail ≡ joined → IsUnfinished e joined → ReadsOn e (held ++ piece) old old (record { settled = 0; tail = tail; is_malformed = false })
  held_read_on tail is unfinished =
      subst (λ l. ReadsOn e (held ++ l) old old (record { settled = 0; tail = tail; is_malformed = false })) (sym (one_item piece some few))
      (held_read e joined old tail is unfinished)

module _ (s : State) (form : Form) (piece : List ℕ) (is : s.form ≡ Some form) (some : 1 ≤ length piece) (few : length piece < 2) where
  abbrev held : List ℕ
  held = bytes_of s.tail

  -- what the state is then, where the step reads on
  read_step : (e : Encoding) (bytes old new : List ℕ) (at : ℕ) (tail : Tail) → ReadsOn (as_encoding form) (held ++ piece) old new (record { settled = at; tail = tail; is_malformed = false })
      → IsOpen s e bytes → HasAdvanced e bytes piece old new (open_next s (s.settled + at) tail)
  read_step e bytes old new at tail reads h =
      let b = between s e bytes piece (record { form = s.form; tail = s.tail; mark = 0; used = 0 }) form is (ready_by_form s form e bytes piece is h) in
      subst (λ f. HasAdvanced e bytes piece old new (record { state = record { form = f; settled = s.settled + at; tail = tail }; malformed = None })) (sym is)
      (still_open (s.settled + 0) e bytes piece form held piece old new b.0 b.1 (record { settled = at; tail = tail; is_malformed = false }) reads (s.settled + at) (omega arith) refl)

  pub steps_on : (step : Step) → StepsTo (as_encoding form) (held ++ get_or piece 0 0 ∷ []) step → StepsOn s piece step
  steps_on (Whole code) to = (
    omega arith,
    λ e bytes old h.
        let n = length held + 1 in
        let reads = whole_read_on (as_encoding form) held piece old some few (old ++ code ∷ []) code n to refl refl in
        subst (λ k. HasAdvanced e bytes piece old (old ++ code ∷ []) (open_next s k Empty)) (omega arith) (read_step e bytes old (old ++ code ∷ []) n Empty reads h),
  )
  steps_on (Held tail) to = (
    omega arith,
    ap length to.0 ∙ length-append held (get_or piece 0 0 ∷ []),
    λ e bytes old h.
        let reads = held_read_on (as_encoding form) held piece old some few tail to.0 to.1 in
        subst (λ k. HasAdvanced e bytes piece old old (open_next s k tail)) (omega arith) (read_step e bytes old old 0 tail reads h),
  )
  steps_on Other to = tt
