-- A part of a string, and what was read for a load.
use Rattle.std.proofs.Common.{◌≡◌, ℕ, zero, suc, ◌+◌, ◌-◌, ◌<◌, ◌≤◌, Bool, true, false, nat_lt, min, List, [], ◌∷◌, ◌++◌, length, take, drop, drop-cons, get_or, slice_range, slice_index_or, Result, Ok, Err, OnOk, IfErr, inl, inr, ℤ, refl, sym, ap, ◌∙◌, subst, length-drop, arith}
use Rattle.std.proofs.lemmas.Bool.{lt-ltb, le-ltb, cases_lt}
use Rattle.nfg_decode.specs.declared.encoding.Encoding.{Encoding}
use Rattle.nfg_decode.specs.Encoding.{decode}
use Rattle.nfg_syn.specs.Known.{Texts, IsKnowledge}
use Rattle.nfg_syn.specs.Represents.{Represents, AreGraphemes, AreKnown}
use Rattle.nfg_syn.specs.Seen.{Seen}
use Rattle.nfg_syn.specs.RepresentsLaws.{Represents-length, Represents-take, Represents-drop}
use Rattle.nfg_strand.specs.Value.{Rope}
use Rattle.nfg_strand.specs.Pieces as pieces
use Rattle.nfg_ops.specs.declared.part.SubError.{SubError}
use Rattle.nfg_work.specs.declared.evaluation.Evaluation.{Evaluation}
use Rattle.nfg_work.specs.declared.output.Cause.{Cause}
use Rattle.nfg_work.specs.declared.output.Cause.TheVariants.{AllTooLong, OutOfRange}
use Rattle.nfg_work.specs.declared.output.FileRead.{FileRead}
use Rattle.nfg_work.specs.declared.output.FileRead.TheVariants.{Bytes}
use Rattle.nfg_work.specs.declared.stop.Stop.{Stop}
use Rattle.nfg_work.specs.declared.stop.Stop.TheVariants.{Refused, RowFull, NoPortion, OutOfMemory}
use Rattle.nfg_work.specs.Values.{Value, no_value, part}
use Rattle.nfg_work.specs.Evaluation.{State, value_of, load, define_decoded, define_part}
use Rattle.nfg_work.specs.Holding.{IsStringOf, Holds, IsHeld, Does, Follows, IsDefined}
use Rattle.nfg_work.specs.Given.{IsPartOf}
use Rattle.nfg_work.proofs.Narrow.{at_most_same}
use Rattle.nfg_work.proofs.Strings.{AreStringsOf-at, AreStringsOf-push}

-- only the output before counts
Follows-same : (places : ℕ) (pass after : Seen) (reads : List FileRead) (used : List (List ℕ)) (old other new : Evaluation) (result : Result (Unit {0}) Stop) (step : Result State Cause)
    → old.output ≡ other.output → Follows places pass after reads used old new result step → Follows places pass after reads used other new result step
Follows-same places pass after reads used old other new (Ok done) step same f = f
Follows-same places pass after reads used old other new (Err (Refused cause)) step same f = (f.0, f.1 ∙ same)
Follows-same places pass after reads used old other new (Err RowFull) step same f = (f.0, f.1 ∙ same)
Follows-same places pass after reads used old other new (Err NoPortion) step same f = (f.0, f.1 ∙ same)
Follows-same places pass after reads used old other new (Err OutOfMemory) step same f = tt

-- what is left to be read begins with the bytes that were found
pub read_next : (known : Texts) (reads : List FileRead) (held : Evaluation) (read : FileRead) (bytes slice : List ℕ) (state : State)
    → Holds known reads held state → held.next_read < length reads → read ≡ get_or reads held.next_read read → read ≡ Bytes bytes → slice ≡ bytes
    → state.reads ≡ Bytes slice ∷ drop (held.next_read + 1) reads
read_next known reads held read bytes slice state h within found is same =
    let more : suc held.next_read ≡ held.next_read + 1 = omega arith in
    sym h.left ∙ drop-cons reads held.next_read read within ∙ (λ i. (sym found ∙ is ∙ ap (λ b. Bytes b) (sym same)) i ∷ drop (more i) reads)

-- a load does what the next of what was read asks for
pub read_follows : (places : ℕ) (pass after : Seen) (reads : List FileRead) (held new : Evaluation) (result : Result (Unit {0}) Stop) (e : Encoding) (read : FileRead) (bytes slice : List ℕ) (state : State)
    → Holds pass.known reads held state → held.next_read < length reads → read ≡ get_or reads held.next_read read → read ≡ Bytes bytes → slice ≡ bytes
    → ((next : State) → Holds pass.known reads (record held { next_read = held.next_read + 1 }) next
    → Follows places pass after reads next.used (record held { next_read = held.next_read + 1 }) new result (define_decoded places next (length slice) (decode e slice)))
    → Follows places pass after reads state.used held new result (load places state e state.reads)
read_follows places pass after reads held new result e read bytes slice state h within found is same done =
    let rest = drop (held.next_read + 1) reads in
    let reads_are = read_next pass.known reads held read bytes slice state h within found is same in
    let next : State = record state { reads = rest } in
    let holds : Holds pass.known reads (record held { next_read = held.next_read + 1 }) next = record {
      strings = h.strings;
      used = h.used;
      spent = h.spent;
      output = h.output;
      left = refl;
    } in
    subst (λ rs. Follows places pass after reads state.used held new result (load places state e rs)) (sym reads_are)
    (Follows-same places pass after reads state.used (record held { next_read = held.next_read + 1 }) held new result (define_decoded places next (length slice) (decode e slice)) refl (done next holds))

-- the string of a name stands for the value of the name
pub named : (known : Texts) (reads : List FileRead) (held : Evaluation) (state : State) (name : ℕ) (nothing string : Rope) → Holds known reads held state
    → nothing.graphemes ≡ [] → nothing.pieces ≡ [] → string ≡ slice_index_or held.strings.items name nothing
    → IsStringOf known string (value_of state name)
named known reads held state name nothing string h none no_pieces is =
    let empty : IsStringOf known nothing no_value = record { represents = rw none tt; pieces = no_pieces } in
    rw is (AreStringsOf-at known held.strings.items state.values name nothing no_value h.strings empty)

-- and for a list of graphemes
pub named_graphemes : (known : Texts) (reads : List FileRead) (held : Evaluation) (name : ℕ) (nothing string : Rope) → IsHeld known reads held
    → nothing.graphemes ≡ [] → nothing.pieces ≡ [] → string ≡ slice_index_or held.strings.items name nothing
    → AreGraphemes known string.graphemes
named_graphemes known reads held name nothing string is none no_pieces at =
    let state = is.0 in
    ((value_of state name).clusters, (named known reads held state name nothing string is.1 none no_pieces at).represents, is.2 name)

-- so each of its numbers is known
pub named_known : (known : Texts) (reads : List FileRead) (held : Evaluation) (name : ℕ) (nothing string : Rope) → IsHeld known reads held
    → nothing.graphemes ≡ [] → nothing.pieces ≡ [] → string ≡ slice_index_or held.strings.items name nothing
    → AreKnown known string.graphemes
named_known known reads held name nothing string is none no_pieces at =
    let all = named_graphemes known reads held name nothing string is none no_pieces at in (all.0, all.1)

-- a start past the end
pub part_outside : (known : Texts) (state : State) (string : Rope) (value : Value) (start count : ℕ) → IsStringOf known string value
    → length string.graphemes < start → define_part state value start count ≡ Err OutOfRange
part_outside known state string value start count is past =
    let long = Represents-length known string.graphemes value.clusters is.represents in
    let over : nat_lt (length value.clusters) start ≡ true = lt-ltb (length value.clusters) start (omega (arith, long, past)) in
    rw over refl

take-all : (xs : List ℤ) (n : ℕ) → length xs ≤ n → take n xs ≡ xs
take-all [] zero le = refl
take-all [] (suc n) le = refl
take-all (x ∷ xs) zero le = absurd (omega (arith, le))
take-all (x ∷ xs) (suc n) le = ap (λ v. x ∷ v) (take-all xs n (omega (arith, le)))

take-enough : (xs : List ℤ) (m n : ℕ) → m ≡ min (length xs) n → take m xs ≡ take n xs
take-enough xs m n e = elim (cases_lt n (length xs)) [
  | inl less ↦ (let same : m ≡ n = omega (arith, e, less) in ap (λ k. take k xs) same)
  | inr le ↦ (take-all xs m (omega (arith, e, le)) ∙ sym (take-all xs n le))
]

range_is : (xs : List ℤ) (start count : ℕ) → start ≤ length xs → slice_range xs start (min (length xs) (start + count)) ≡ take count (drop start xs)
range_is xs start count inside =
    let left = length-drop start xs in
    take-enough (drop start xs) (min (length xs) (start + count) - start) count (omega (arith, left, inside))

-- the part of the string stands for the part of the value
pub part_is : (size : ℕ) (known places : Texts) (string made : Rope) (value : Value) (start count : ℕ) → IsKnowledge size known places → IsStringOf known string value
    → start ≤ length string.graphemes
    → made.graphemes ≡ slice_range string.graphemes start (min (length string.graphemes) (start + count))
    → made.pieces ≡ pieces.at_most_64 made.graphemes (pieces.clipped string.pieces start (min (length string.graphemes) (start + count)))
    → IsStringOf known made (part value start count)
part_is size known places string made value start count knows is inside graphemes_are pieces_are =
    let long = Represents-length known string.graphemes value.clusters is.represents in
    let graphemes = graphemes_are ∙ range_is string.graphemes start count inside in
    let represents : Represents known made.graphemes (take count (drop start value.clusters)) =
    rw graphemes (Represents-take known count _ _ (Represents-drop known start string.graphemes value.clusters is.represents)) in
    let clips : pieces.clipped string.pieces start (min (length string.graphemes) (start + count))
    ≡ pieces.clipped value.pieces start (min (length value.clusters) (start + count)) =
    (λ i. pieces.clipped (is.pieces i) start (min (long i) (start + count))) in
    record {
      represents = represents;
      pieces = pieces_are ∙ ap (pieces.at_most_64 made.graphemes) clips
          ∙ at_most_same size known places knows made.graphemes (take count (drop start value.clusters)) (pieces.clipped value.pieces start (min (length value.clusters) (start + count))) represents;
    }

spent_with : (spent held cost count : ℕ) (over : Bool) → held ≡ spent → cost ≡ count → nat_lt 536870912 (held + cost) ≡ over → nat_lt 536870912 (spent + count) ≡ over
spent_with spent held cost count over same_spent same_cost e = (λ i. nat_lt 536870912 (sym same_spent i + sym same_cost i)) ∙ e

inside_test : (known : Texts) (string : Rope) (value : Value) (start : ℕ) → IsStringOf known string value → start ≤ length string.graphemes
    → nat_lt (length value.clusters) start ≡ false
inside_test known string value start is inside =
    let long = Represents-length known string.graphemes value.clusters is.represents in
    le-ltb (length value.clusters) start (omega (arith, long, inside))

-- a part that is not made
pub part_stopped : (known : Texts) (reads : List FileRead) (held : Evaluation) (state : State) (string : Rope) (value : Value) (start count : ℕ) (stop : Stop)
    → IsStringOf known string value → IsPartOf known string value start count (Err stop) → Does known reads state.used held held (Err stop) (define_part state value start count)
part_stopped known reads held state string value start count (Refused cause) is stopped =
    (part_outside known state string value start count is stopped.1 ∙ ap (λ c. Err c) (sym stopped.0), refl)
part_stopped known reads held state string value start count RowFull is stopped = stopped
part_stopped known reads held state string value start count NoPortion is stopped = stopped
part_stopped known reads held state string value start count OutOfMemory is stopped = tt

-- a part that costs too much
pub part_over : (cost : ℕ) (known : Texts) (reads : List FileRead) (held : Evaluation) (state : State) (string made : Rope) (value : Value) (start count : ℕ)
    → Holds known reads held state → IsStringOf known string value → start ≤ length string.graphemes
    → IsStringOf known made (part value start count) → cost ≡ length made.graphemes → nat_lt 536870912 (held.spent + cost) ≡ true
    → define_part state value start count ≡ Err AllTooLong
part_over cost known reads held state string made value start count h is inside part cost_is over =
    let long = Represents-length known made.graphemes _ part.represents in
    let much = spent_with state.spent held.spent cost _ true h.spent (cost_is ∙ long) over in
    rw (inside_test known string value start is inside, much) refl

-- a part that is the next name's
pub part_does : (cost : ℕ) (known : Texts) (reads : List FileRead) (old new : Evaluation) (state : State) (string made : Rope) (value : Value) (start count : ℕ)
    (result : Result (Unit {0}) Stop) → Holds known reads old state → IsStringOf known string value → start ≤ length string.graphemes
    → IsStringOf known made (part value start count) → cost ≡ length made.graphemes → nat_lt 536870912 (old.spent + cost) ≡ false
    → OnOk result (IsDefined old new cost made) → IfErr result (λ stop. stop ≡ OutOfMemory)
    → Does known reads state.used old new result (define_part state value start count)
part_does cost known reads old new state string made value start count (Ok done) h is inside is_part cost_is fits d none =
    let long = Represents-length known made.graphemes (part value start count).clusters is_part.represents in
    let few = spent_with state.spent old.spent cost (length (part value start count).clusters) false h.spent (cost_is ∙ long) fits in (
      record state { values = state.values ++ part value start count ∷ []; spent = state.spent + length (part value start count).clusters },
      rw (inside_test known string value start is inside, few) refl,
      record {
        strings = rw d.strings (AreStringsOf-push known old.strings.items state.values made (part value start count) h.strings is_part);
        used = h.used;
        spent = d.spent ∙ (λ i. h.spent i + (cost_is ∙ long) i);
        output = d.output ∙ h.output;
        left = rw d.next_read h.left;
      },
      refl,
    )
part_does cost known reads old new state string made value start count (Err (Refused cause)) h is inside is_part cost_is fits d none = cc
part_does cost known reads old new state string made value start count (Err RowFull) h is inside is_part cost_is fits d none = cc
part_does cost known reads old new state string made value start count (Err NoPortion) h is inside is_part cost_is fits d none = cc
part_does cost known reads old new state string made value start count (Err OutOfMemory) h is inside is_part cost_is fits d none = tt

-- the start is inside, since the part was not refused
pub part_inside : {X : Type 0} (string : Rope) (start : ℕ) (made : X) → ((length string.graphemes < start) → Ok made ≡ Err SubError.OutOfRange) → start ≤ length string.graphemes
part_inside string start made refused = elim (cases_lt (length string.graphemes) start) [
  | inl past ↦ absurd (let never = refused past in cc)
  | inr inside ↦ inside
]
