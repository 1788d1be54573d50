-- From one state of a stream to the next.
use Rattle.std.proofs.Common.{◌≡◌, ℕ, ◌+◌, ◌*◌, ◌<◌, ◌⊎◌, inl, inr, true, false, List, [], ◌∷◌, ◌++◌, length, take, drop, refl, sym, ap, ◌∙◌, subst, arith, length-append, take-append-drop, append_assoc}
use Rattle.std.proofs.lemmas.List.{append-nil, length-take-le}
use Rattle.std.proofs.lemmas.Bool.{MatchBool-at_true, MatchBool-at_false}
use Rattle.std.specs.Prelude.{Ok, Err, Option, Some, None, MatchOption}
use Rattle.nfg_decode.specs.declared.encoding.Encoding.{Encoding}
use Rattle.nfg_decode.specs.declared.encoding.Encoding.TheVariants.{Utf16}
use Rattle.nfg_decode.specs.declared.utf16.ByteOrder.TheVariants.{Big}
use Rattle.nfg_decode.specs.declared.reading.Form.{Form}
use Rattle.nfg_decode.specs.declared.reading.Reading.{Reading}
use Rattle.nfg_decode.specs.declared.tail.Tail.{Tail}
use Rattle.nfg_decode.specs.declared.mark.Opening.{Opening}
use Rattle.nfg_decode.specs.declared.state.State.{State}
use Rattle.nfg_decode.specs.Decoded.{after_text}
use Rattle.nfg_decode.specs.Utf16.{unit, decode_utf16}
use Rattle.nfg_decode.specs.Encoding.{decode, decoded_prefix, IsAlreadyMalformed}
use Rattle.nfg_decode.specs.Reads.{IsUnfinished}
use Rattle.nfg_decode.specs.Reading.{as_encoding, ReadsOn}
use Rattle.nfg_decode.specs.Tail.{bytes_of}
use Rattle.nfg_decode.specs.Mark.{MayBeMark, Opens, Reduces}
use Rattle.nfg_decode.specs.State.{GivesNext, IsBeforeMark, IsBetween, IsOpen, IsReady, HasAdvanced}
use Rattle.nfg_decode.proofs.ReadsLemmas.{AreBytes-nil, IsUnfinished-nil, decode-nil, one_byte}
use Rattle.nfg_decode.proofs.Utf16Tails.{one_unit, not_surrogate}
use Rattle.nfg_decode.proofs.ReadingLemmas.{form_stepwise}
use Rattle.nfg_decode.proofs.PrefixLemmas.{one_unmarked, two_unmarked, unmarked_front, prefix_of_text, prefix_of_fault, behind_text, prefix_of_open, reduces_same, reduces_more}

-- before the first byte
pub first_is : (e : Encoding) (form : Form) → as_encoding form ≡ e → IsBetween 0 e [] form [] []
first_is e form is = record {
  start = 0;
  front = [];
  text = [];
  reduces = subst (λ r. Reduces e [] r [] 0) (sym is) (reduces_same e []);
  whole = decode-nil (as_encoding form);
  unfinished = IsUnfinished-nil (as_encoding form);
  place = refl;
}

-- before the mark there is no text
prefix_before : (b : List ℕ) → MayBeMark b → decoded_prefix Utf16 b ≡ []
unfolding decode_utf16
prefix_before [] m = prefix_of_text Utf16 [] [] (decode-nil Utf16)
prefix_before (x ∷ []) m = prefix_of_fault Utf16 (x ∷ []) [] 0 (unmarked_front (x ∷ []) 1 (one_unmarked x)) (omega arith) (decode-nil Utf16)
prefix_before (x ∷ y ∷ b) m = absurd m

no_text_before : (s : State) (e : Encoding) (bytes : List ℕ) → IsBeforeMark s e bytes → decoded_prefix e bytes ≡ []
no_text_before s e bytes h = (λ i. decoded_prefix (h.encoding i) (h.held i)) ∙ prefix_before (bytes_of s.tail) h.mark

-- behind the mark, or where none is yet
ready_before : (s : State) (e : Encoding) (bytes piece : List ℕ) (form : Option Form) (t : Tail) (mark used : ℕ) → IsBeforeMark s e bytes
    → Opens (bytes_of s.tail) piece (record { form = form; tail = t; mark = mark; used = used })
    → IsReady s e bytes piece (record { form = form; tail = t; mark = mark; used = used })
ready_before s e bytes piece None t mark used h o = (
  record {
    encoding = h.encoding;
    held = ap (λ b. b ++ piece) h.held ∙ o.undecided.0;
    mark = o.undecided.1;
    settled = h.settled;
  },
  no_text_before s e bytes h,
)
ready_before s e bytes piece (Some form) t mark used h o =
    let place = h.settled in (
      record {
        start = mark;
        front = [];
        text = [];
        reduces = (subst (λ x. Reduces x (bytes ++ piece) (as_encoding form) (bytes_of t ++ drop used piece) mark) (sym h.encoding)
            (subst (λ b. Reduces Utf16 (b ++ piece) (as_encoding form) (bytes_of t ++ drop used piece) mark) (sym h.held) o.decided.0));
        whole = decode-nil (as_encoding form);
        unfinished = o.decided.1;
        place = omega arith;
      },
      no_text_before s e bytes h,
    )

pub ready_by_mark : (s : State) (e : Encoding) (bytes piece : List ℕ) (o : Opening) → s.form ≡ None → (MayBeMark (bytes_of s.tail) → Opens (bytes_of s.tail) piece o)
    → IsOpen s e bytes → IsReady s e bytes piece o
ready_by_mark s e bytes piece o is opens h =
    let before : IsBeforeMark s e bytes = subst (λ f. MatchOption f (IsBeforeMark s e bytes) (λ form. IsBetween s.settled e bytes form (bytes_of s.tail) [])) is h in
    ready_before s e bytes piece o.form o.tail o.mark o.used before (opens before.mark)

-- with the form known
module _ (settled : ℕ) (e : Encoding) (bytes piece : List ℕ) (form : Form) (held : List ℕ) (h : IsBetween settled e bytes form held []) where
  text_between : decoded_prefix e bytes ≡ h.text
  text_between =
      let r = as_encoding form in
      ap (decoded_prefix e) (sym (append-nil bytes))
      ∙ h.reduces.prefix []
      ∙ ap (decoded_prefix r) (append-nil (h.front ++ (held ++ [])) ∙ ap (λ l. h.front ++ l) (append-nil held))
      ∙ prefix_of_open r (form_stepwise form) h.front h.text held h.whole h.unfinished.cut

  ready_between : (b : IsBetween (settled + 0) e (bytes ++ piece) form held piece) × (decoded_prefix e bytes ≡ b.text)
  ready_between =
      let place = h.place in
      let body : (h.front ++ (held ++ [])) ++ piece ≡ h.front ++ (held ++ piece) =
      append_assoc h.front (held ++ []) piece ∙ ap (λ l. h.front ++ (l ++ piece)) (append-nil held) in (
        record {
          start = h.start;
          front = h.front;
          text = h.text;
          reduces = subst (λ b. Reduces e (bytes ++ piece) (as_encoding form) b h.start) body
              (reduces_more e (as_encoding form) bytes (h.front ++ (held ++ [])) piece h.start h.reduces);
          whole = h.whole;
          unfinished = h.unfinished;
          place = omega arith;
        },
        text_between,
      )

ready_known : (form : Option Form) (settled : ℕ) (t : Tail) (f : Form) (e : Encoding) (bytes piece : List ℕ) → form ≡ Some f
    → IsOpen (record { form = form; settled = settled; tail = t }) e bytes
    → IsReady (record { form = form; settled = settled; tail = t }) e bytes piece (record { form = form; tail = t; mark = 0; used = 0 })
ready_known None settled t f e bytes piece is h = cc
ready_known (Some g) settled t f e bytes piece is h = ready_between settled e bytes piece g (bytes_of t) h

pub ready_by_form : (s : State) (f : Form) (e : Encoding) (bytes piece : List ℕ) → s.form ≡ Some f → IsOpen s e bytes
    → IsReady s e bytes piece (record { form = s.form; tail = s.tail; mark = 0; used = 0 })
ready_by_form s f e bytes piece is h = ready_known s.form s.settled s.tail f e bytes piece is h

-- ---- the piece is read

pub still_before : (s : State) (e : Encoding) (bytes piece into : List ℕ) (o : Opening) → o.form ≡ None → IsReady s e bytes piece o
    → HasAdvanced e bytes piece into into (record { state = record { form = None; settled = s.settled; tail = o.tail }; malformed = None })
still_before s e bytes piece into o is ready =
    let after : State = record { form = None; settled = s.settled; tail = o.tail } in
    let told : IsBeforeMark (record { form = o.form; settled = s.settled; tail = o.tail }) e (bytes ++ piece) × (decoded_prefix e bytes ≡ []) =
    subst (λ f. MatchOption f
    (IsBeforeMark (record { form = o.form; settled = s.settled; tail = o.tail }) e (bytes ++ piece) × (decoded_prefix e bytes ≡ []))
    (λ form. (b : IsBetween (s.settled + o.mark) e (bytes ++ piece) form (bytes_of o.tail) (drop o.used piece)) × (decoded_prefix e bytes ≡ b.text))) is ready in
    let b = told.0 in
    let next : IsBeforeMark after e (bytes ++ piece) = record { encoding = b.encoding; held = b.held; mark = b.mark; settled = b.settled } in
    record {
      given = ([], sym (append-nil into), no_text_before after e (bytes ++ piece) next ∙ ap (λ l. l ++ []) (sym told.1));
      state = next;
    }

module _ (settled : ℕ) (e : Encoding) (bytes piece : List ℕ) (form : Form) (held rest old new : List ℕ) (b : IsBetween settled e (bytes ++ piece) form held rest)
    (known : decoded_prefix e bytes ≡ b.text) (reading : Reading) (r : ReadsOn (as_encoding form) (held ++ rest) old new reading) where
  abbrev body : List ℕ
  body = held ++ rest

  abbrev at : ℕ
  at = reading.settled

  abbrev front : List ℕ
  front = b.front ++ take at body

  abbrev text : List ℕ
  text = b.text ++ r.reads.text

  whole : decode (as_encoding form) front ≡ Ok text
  whole =
      behind_text (as_encoding form) (form_stepwise form) b.front b.text [] b.whole (take at body)
      ∙ ap (λ d. after_text b.text (length b.front) d) r.reads.front

  parts : front ++ drop at body ≡ b.front ++ body
  parts = append_assoc b.front (take at body) (drop at body) ∙ ap (λ l. b.front ++ l) (take-append-drop at body)

  place_is : settled + at ≡ b.start + length front
  place_is =
      let within = r.reads.within in
      let place = b.place in
      omega (arith, length-append b.front (take at body), length-take-le at body r.reads.within)

  given_by : (drop at body ≡ []) ⊎ (decode (as_encoding form) (drop at body) ≡ Err 0) → GivesNext e bytes piece old new
  given_by cut = (
    r.reads.text,
    r.reads.added,
    ap (decoded_prefix e) (sym (append-nil (bytes ++ piece)))
        ∙ b.reduces.prefix []
        ∙ ap (decoded_prefix (as_encoding form)) (append-nil (b.front ++ body) ∙ sym parts)
        ∙ prefix_of_open (as_encoding form) (form_stepwise form) front text (drop at body) whole cut
        ∙ ap (λ l. l ++ r.reads.text) (sym known),
  )

  pub still_open : (n : ℕ) → n ≡ settled + at → reading.is_malformed ≡ false
      → HasAdvanced e bytes piece old new (record { state = record { form = Some form; settled = n; tail = reading.tail }; malformed = None })
  still_open n is m =
      let u : IsUnfinished (as_encoding form) (drop at body) = MatchBool-at_false _ _ m r.reads.behind in
      let tail_is = r.held m in
      let place = place_is in
      record {
        given = given_by u.cut;
        state = record {
          start = b.start;
          front = front;
          text = text;
          reduces = subst (λ l. Reduces e (bytes ++ piece) (as_encoding form) l b.start)
              (sym parts ∙ ap (λ l. front ++ l) (sym tail_is ∙ sym (append-nil (bytes_of reading.tail)))) b.reduces;
          whole = whole;
          unfinished = subst (IsUnfinished (as_encoding form)) (sym tail_is) u;
          place = omega arith;
        };
      }

  fault_stays : (n : ℕ) → n ≡ settled + at → IsAlreadyMalformed (as_encoding form) (drop at body) 0 → IsAlreadyMalformed e (bytes ++ piece) n
  fault_stays n is bad more small =
      let place = place_is in
      b.reduces.decodes more
      ∙ ap (λ l. after_text [] b.start (decode (as_encoding form) l)) (ap (λ l. l ++ more) (sym parts) ∙ append_assoc front (drop at body) more)
      ∙ ap (λ d. after_text [] b.start d)
      (behind_text (as_encoding form) (form_stepwise form) front text [] whole (drop at body ++ more) ∙ ap (λ d. after_text text (length front) d) (bad more small))
      ∙ ap (λ m. Err m) (omega arith)

  pub now_malformed : (n : ℕ) (s : State) → n ≡ settled + at → reading.is_malformed ≡ true
      → HasAdvanced e bytes piece old new (record { state = s; malformed = Some n })
  now_malformed n s is m =
      let bad : IsAlreadyMalformed (as_encoding form) (drop at body) 0 = MatchBool-at_true _ _ m r.reads.behind in
      record {
        given = given_by (inr (ap (decode (as_encoding form)) (sym (append-nil (drop at body))) ∙ bad [] AreBytes-nil));
        state = fault_stays n is bad;
      }

-- ---- where the form is known

pub between : (s : State) (e : Encoding) (bytes piece : List ℕ) (o : Opening) (f : Form) → o.form ≡ Some f → IsReady s e bytes piece o
    → (b : IsBetween (s.settled + o.mark) e (bytes ++ piece) f (bytes_of o.tail) (drop o.used piece)) × (decoded_prefix e bytes ≡ b.text)
between s e bytes piece o f is ready =
    subst (λ x. MatchOption x
    (IsBeforeMark (record { form = o.form; settled = s.settled; tail = o.tail }) e (bytes ++ piece) × (decoded_prefix e bytes ≡ []))
    (λ form. (b : IsBetween (s.settled + o.mark) e (bytes ++ piece) form (bytes_of o.tail) (drop o.used piece)) × (decoded_prefix e bytes ≡ b.text))) is ready

-- ---- the end

module _ (settled : ℕ) (e : Encoding) (bytes : List ℕ) (form : Form) (held : List ℕ) (h : IsBetween settled e bytes form held []) where
  decode_between : decode e bytes ≡ after_text [] h.start (after_text h.text (length h.front) (decode (as_encoding form) held))
  decode_between =
      let r = as_encoding form in
      let regrouped : (h.front ++ (held ++ [])) ++ [] ≡ h.front ++ held = append-nil (h.front ++ (held ++ [])) ∙ ap (λ l. h.front ++ l) (append-nil held) in
      ap (decode e) (sym (append-nil bytes))
      ∙ h.reduces.decodes []
      ∙ ap (λ l. after_text [] h.start (decode r l)) regrouped
      ∙ ap (λ d. after_text [] h.start d) (behind_text r (form_stepwise form) h.front h.text [] h.whole held)

  end_between : held ≡ [] → decode e bytes ≡ Ok (decoded_prefix e bytes)
  end_between none =
      decode_between
      ∙ ap (λ l. after_text [] h.start (after_text h.text (length h.front) (decode (as_encoding form) l))) none
      ∙ ap (λ d. after_text [] h.start (after_text h.text (length h.front) d)) (decode-nil (as_encoding form))
      ∙ ap (λ l. Ok l) (append-nil h.text ∙ sym (text_between settled e bytes [] form held h))

  cut_between : 0 < length held → decode e bytes ≡ Err settled
  cut_between some = elim (h.unfinished.cut) [
    | inl none ↦ absurd (omega (arith, ap length none))
    | inr cut ↦
        let place = h.place in
        decode_between ∙ ap (λ d. after_text [] h.start (after_text h.text (length h.front) d)) cut ∙ ap (λ n. Err n) (omega arith)
  ]

  mended_between : (at : ℕ) → IsAlreadyMalformed e bytes at → ⊥
  mended_between at bad =
      let u = h.unfinished in
      let r = as_encoding form in
      let regrouped : (h.front ++ (held ++ [])) ++ u.more ≡ h.front ++ (held ++ u.more) =
      ap (λ l. (h.front ++ l) ++ u.more) (append-nil held) ∙ append_assoc h.front held u.more in
      let whole : decode e (bytes ++ u.more) ≡ Ok (h.text ++ u.text) =
      h.reduces.decodes u.more
      ∙ ap (λ l. after_text [] h.start (decode r l)) regrouped
      ∙ ap (λ d. after_text [] h.start d)
      (behind_text r (form_stepwise form) h.front h.text [] h.whole (held ++ u.more) ∙ ap (λ d. after_text h.text (length h.front) d) u.completed) in
      let broken = bad u.more u.bytes in
      cc

end_before : (b : List ℕ) → MayBeMark b → b ≡ [] → decode Utf16 b ≡ Ok (decoded_prefix Utf16 b)
end_before b m none =
    ap (decode Utf16) none ∙ decode-nil Utf16 ∙ ap (λ l. Ok l) (sym (prefix_before b m))

cut_before : (b : List ℕ) → MayBeMark b → 0 < length b → decode Utf16 b ≡ Err 0
unfolding decode_utf16
cut_before [] m some = absurd (omega arith)
cut_before (x ∷ []) m some = unmarked_front (x ∷ []) 1 (one_unmarked x)
cut_before (x ∷ y ∷ b) m some = absurd m

mended_before : (b : List ℕ) → MayBeMark b → (at : ℕ) → IsAlreadyMalformed Utf16 b at → ⊥
mended_before [] m at bad =
    let whole = decode-nil Utf16 in
    let broken = bad [] AreBytes-nil in
    cc
mended_before (x ∷ []) m at bad =
    let whole : decode Utf16 (x ∷ 0 ∷ []) ≡ Ok (unit Big x 0 ∷ []) =
    unmarked_front (x ∷ 0 ∷ []) 2 (two_unmarked x 0 [] (λ _ n. absurd (omega arith)) (λ _ n. absurd (omega arith)))
    ∙ one_unit Big x 0 (not_surrogate (x * 256 + 0) (inr (omega arith))) in
    let broken = bad (0 ∷ []) (one_byte 0 (omega arith)) in
    cc
mended_before (x ∷ y ∷ b) m at bad = absurd m

open_cases : (form : Option Form) (settled : ℕ) (t : Tail) (e : Encoding) (bytes : List ℕ) → IsOpen (record { form = form; settled = settled; tail = t }) e bytes
    → ((bytes_of t ≡ [] → decode e bytes ≡ Ok (decoded_prefix e bytes)) × (0 < length (bytes_of t) → decode e bytes ≡ Err settled))
    × ((at : ℕ) → IsAlreadyMalformed e bytes at → ⊥)
open_cases None settled t e bytes h =
    let Q : Encoding → List ℕ → Type 0 = λ x b. ((bytes_of t ≡ [] → decode x b ≡ Ok (decoded_prefix x b)) × (0 < length (bytes_of t) → decode x b ≡ Err settled)) × ((at : ℕ) → IsAlreadyMalformed x b at → ⊥) in
    let here : Q Utf16 (bytes_of t) = (
      (end_before (bytes_of t) h.mark, λ some. cut_before (bytes_of t) h.mark some ∙ ap (λ n. Err n) (sym h.settled)),
      mended_before (bytes_of t) h.mark,
    ) in
    subst (λ x. Q x bytes) (sym h.encoding) (subst (λ b. Q Utf16 b) (sym h.held) here)
open_cases (Some form) settled t e bytes h = (
  (end_between settled e bytes form (bytes_of t) h, cut_between settled e bytes form (bytes_of t) h),
  mended_between settled e bytes form (bytes_of t) h,
)

pub open_end : (s : State) (e : Encoding) (bytes : List ℕ) → IsOpen s e bytes → bytes_of s.tail ≡ [] → decode e bytes ≡ Ok (decoded_prefix e bytes)
open_end s e bytes h = (open_cases s.form s.settled s.tail e bytes h).0.0

pub open_cut : (s : State) (e : Encoding) (bytes : List ℕ) → IsOpen s e bytes → 0 < length (bytes_of s.tail) → decode e bytes ≡ Err s.settled
open_cut s e bytes h = (open_cases s.form s.settled s.tail e bytes h).0.1

pub open_mends : (s : State) (e : Encoding) (bytes : List ℕ) → IsOpen s e bytes → (at : ℕ) → IsAlreadyMalformed e bytes at → ⊥
open_mends s e bytes h = (open_cases s.form s.settled s.tail e bytes h).1
