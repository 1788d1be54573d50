-- Reading on over a seam of at most four bytes.
use Rattle.std.proofs.Common.{◌≡◌, ℕ, ◌+◌, ◌-◌, ◌<◌, ◌≤◌, inl, inr, Bool, true, false, List, [], ◌∷◌, ◌++◌, length, get_or, take, drop, refl, sym, ap, ◌∙◌, subst, arith, length-append, length-take, length-drop, take-append-drop, append_assoc, drop-drop}
use Rattle.std.proofs.lemmas.List.{take_all, take-take, take-append-le, get_or-drop, get_or_default, get_or-append_right}
use Rattle.std.proofs.lemmas.Bool.{cases_lt, MatchBool-at_false}
use Rattle.std.proofs.Math.Seq.{drop-append-add}
use Rattle.std.specs.Prelude.{Ok, MatchBool}
use Rattle.nfg_decode.specs.declared.encoding.Encoding.{Encoding}
use Rattle.nfg_decode.specs.declared.encoding.Encoding.TheVariants.{Latin1}
use Rattle.nfg_decode.specs.declared.utf16.ByteOrder.TheVariants.{Little, Big}
use Rattle.nfg_decode.specs.declared.reading.Form.{Form}
use Rattle.nfg_decode.specs.declared.reading.Form.TheVariants as forms
use Rattle.nfg_decode.specs.Encoding.{decode, AreBytes, IsAlreadyMalformed}
use Rattle.nfg_decode.specs.Reads.{IsUnfinished, Reads}
use Rattle.nfg_decode.specs.declared.reading.Reading.{Reading}
use Rattle.nfg_decode.specs.Reading.{as_encoding, ReadsOn}
use Rattle.nfg_decode.proofs.ReadsLemmas.{AreBytes-append}
use Rattle.nfg_decode.proofs.Stepwise.{First, empty, begins, IsStepwise, two_texts, none_shorter}
use Rattle.nfg_decode.proofs.Utf8Laws.{utf8_stepwise}
use Rattle.nfg_decode.proofs.Utf16Laws.{utf16_stepwise}

latin1_first : (b : List ℕ) → First (decode Latin1) b
unfolding decode
latin1_first [] = empty refl
latin1_first (x ∷ b) = begins (record {
  sequence = x ∷ [];
  rest = b;
  code = x;
  split = refl;
  some = omega arith;
  goes = λ ys. refl;
})

pub latin1_stepwise : IsStepwise (decode Latin1)
unfolding decode
latin1_stepwise = record { nothing = refl; first = latin1_first }

-- each form goes by one sequence after another
pub form_stepwise : (f : Form) → IsStepwise (decode (as_encoding f))
unfolding decode
form_stepwise forms.Utf8 = utf8_stepwise
form_stepwise (forms.Utf16 Little) = utf16_stepwise Little
form_stepwise (forms.Utf16 Big) = utf16_stepwise Big
form_stepwise forms.Latin1 = latin1_stepwise

module _ (e : Encoding) (stepwise : IsStepwise (decode e)) (held piece : List ℕ) (unfinished : IsUnfinished e held) where
  -- a sequence that the held bytes begin goes past them
  past_held : (at : ℕ) (t : List ℕ) → 0 < at → at ≤ 4 → decode e (take at (held ++ piece)) ≡ Ok t → length held < at
  past_held at t some within front = elim (cases_lt (length held) at) [
    | inl h ↦ h
    | inr low ↦ elim (unfinished.cut) [
      | inl is_nil ↦ absurd (omega (arith, ap length is_nil))
      | inr cut ↦
          let none = none_shorter (decode e) stepwise held at cut some low in
          let same = ap (decode e) (take-append-le at held piece low) in
          cc
    ]
  ]

  -- from there on only the piece is read
  pub over_seam : (seam old mid new : List ℕ) (at at2 : ℕ) (m m2 : Bool) → seam ≡ take 4 (held ++ piece) → 0 < at → Reads e seam old mid at m
      → Reads e (drop (at - length held) piece) mid new at2 m2 → Reads e (held ++ piece) old new (at + at2) m2
  over_seam seam old mid new at at2 m m2 is some over rest =
      let within = over.within in
      let rest_within = rest.within in
      let few : at ≤ 4 = omega (arith, ap length is, length-take 4 (held ++ piece)) in
      let front : decode e (take at (held ++ piece)) ≡ Ok over.text =
      ap (decode e) (sym (take-take at 4 (held ++ piece) few) ∙ ap (take at) (sym is)) ∙ over.front in
      let past = past_held at over.text some few front in
      let apart : length held + (at - length held) ≡ at = omega arith in
      let left : drop at (held ++ piece) ≡ drop (at - length held) piece =
      ap (λ n. drop n (held ++ piece)) (sym apart) ∙ drop-append-add held piece (at - length held) in
      record {
        within = omega (arith, length-append held piece, length-drop (at - length held) piece, ap length is, length-take 4 (held ++ piece));
        text = over.text ++ rest.text;
        front = two_texts (decode e) stepwise (held ++ piece) at at2 over.text rest.text front (ap (λ l. decode e (take at2 l)) left ∙ rest.front);
        added = rest.added ∙ ap (λ l. l ++ rest.text) over.added ∙ append_assoc old over.text rest.text;
        behind = subst (λ l. MatchBool m2 (IsAlreadyMalformed e l 0) (IsUnfinished e l)) (ap (drop at2) (sym left) ∙ drop-drop at2 at (held ++ piece)) rest.behind;
      }

  pub left_over_seam : (at at2 : ℕ) → length held < at → drop at2 (drop (at - length held) piece) ≡ drop (at + at2) (held ++ piece)
  left_over_seam at at2 past =
      let apart : length held + (at - length held) ≡ at = omega arith in
      ap (drop at2) (sym (drop-append-add held piece (at - length held)) ∙ ap (λ n. drop n (held ++ piece)) apart) ∙ drop-drop at2 at (held ++ piece)

  -- where the seam is all that there is
  whole_seam : (seam : List ℕ) → seam ≡ take 4 (held ++ piece) → length seam ≤ 3 → seam ≡ held ++ piece
  whole_seam seam is short = is ∙ take_all 4 (held ++ piece) (omega (arith, ap length is, length-take 4 (held ++ piece)))

  module _ (small : (i : ℕ) → get_or piece i 0 < 256) where
    -- the bytes behind the seam are of the piece
    behind_seam : AreBytes (drop 4 (held ++ piece))
    behind_seam k d l =
        let short = unfinished.short in
        let len = length-append held piece in
        let there : 4 + k < length (held ++ piece) = omega (arith, length-drop 4 (held ++ piece)) in
        rw (get_or-drop 4 (held ++ piece) k d, get_or-append_right held piece (length held) (4 + k) d refl (omega arith), get_or_default piece (4 + k - length held) d 0 (omega arith))
        (small (4 + k - length held))

    stuck_behind : (seam : List ℕ) (m : Bool) → seam ≡ take 4 (held ++ piece) → MatchBool m (IsAlreadyMalformed e seam 0) (IsUnfinished e seam)
        → MatchBool m (IsAlreadyMalformed e (held ++ piece) 0) (IsUnfinished e (held ++ piece))
    stuck_behind seam false is u = subst (IsUnfinished e) (whole_seam seam is u.short) u
    stuck_behind seam true is h = λ more bytes.
        let regrouped : (held ++ piece) ++ more ≡ seam ++ (drop 4 (held ++ piece) ++ more) =
        ap (λ l. l ++ more) (sym (take-append-drop 4 (held ++ piece)) ∙ ap (λ l. l ++ drop 4 (held ++ piece)) (sym is))
        ∙ append_assoc seam (drop 4 (held ++ piece)) more in
        ap (decode e) regrouped ∙ h (drop 4 (held ++ piece) ++ more) (AreBytes-append _ _ behind_seam bytes)

    stuck_seam : (seam old mid : List ℕ) (m : Bool) → seam ≡ take 4 (held ++ piece) → Reads e seam old mid 0 m → Reads e (held ++ piece) old mid 0 m
    stuck_seam seam old mid m is r = record {
      within = omega arith;
      text = r.text;
      front = r.front;
      added = r.added;
      behind = stuck_behind seam m is r.behind;
    }

    -- no whole sequence is there yet
    pub none_over_seam : (seam old mid : List ℕ) (reading : Reading) → seam ≡ take 4 (held ++ piece) → reading.settled ≡ 0 → ReadsOn e seam old mid reading
        → ReadsOn e (held ++ piece) old mid reading
    none_over_seam seam old mid reading is at_start r =
        let m = reading.is_malformed in
        let at_0 : Reads e seam old mid 0 m = subst (λ n. Reads e seam old mid n m) at_start r.reads in
        record {
          reads = subst (λ n. Reads e (held ++ piece) old mid n m) (sym at_start) (stuck_seam seam old mid m is at_0);
          held = λ open_still.
              let u : IsUnfinished e seam = MatchBool-at_false _ _ open_still at_0.behind in
              r.held open_still ∙ ap (drop reading.settled) (whole_seam seam is u.short);
        }

  -- all of the bytes are in the seam
  pub all_in_seam : (seam old mid : List ℕ) (reading : Reading) → seam ≡ take 4 (held ++ piece) → length held + length piece ≤ 4 → ReadsOn e seam old mid reading
      → ReadsOn e (held ++ piece) old mid reading
  all_in_seam seam old mid reading is few r =
      subst (λ l. ReadsOn e l old mid reading) (is ∙ take_all 4 (held ++ piece) (omega (arith, length-append held piece))) r

  -- or one is, and then the piece is read on
  pub some_over_seam : (seam old mid new : List ℕ) (over rest : Reading) (used : ℕ) → seam ≡ take 4 (held ++ piece) → 0 < over.settled → used ≡ over.settled - length held
      → ReadsOn e seam old mid over → ReadsOn e (drop used piece) mid new rest
      → ReadsOn e (held ++ piece) old new (record { settled = over.settled + rest.settled; tail = rest.tail; is_malformed = rest.is_malformed })
  some_over_seam seam old mid new over rest used is some u o r =
      let at = over.settled in
      let left = subst (λ n. ReadsOn e (drop n piece) mid new rest) u r in
      let within = o.reads.within in
      let few : at ≤ 4 = omega (arith, ap length is, length-take 4 (held ++ piece)) in
      let front : decode e (take at (held ++ piece)) ≡ Ok o.reads.text =
      ap (decode e) (sym (take-take at 4 (held ++ piece) few) ∙ ap (take at) (sym is)) ∙ o.reads.front in
      record {
        reads = over_seam seam old mid new at rest.settled over.is_malformed rest.is_malformed is some o.reads left.reads;
        held = λ open_still. left.held open_still ∙ left_over_seam at rest.settled (past_held at o.reads.text some few front);
      }
