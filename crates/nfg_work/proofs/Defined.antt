-- A name that is defined, or refused, as the step says.
use Rattle.std.proofs.Common.{◌≡◌, ℕ, ◌+◌, Bool, true, false, nat_lt, List, [], ◌∷◌, ◌++◌, bytes_eq, Some, None, Result, Ok, Err, OnOk, IfErr, refl, sym, ap, ◌∙◌, subst}
use Rattle.std.specs.Set.{distinct_count}
use Rattle.nfg_text.specs.Graphemes.{graphemes_of}
use Rattle.nfg_decode.specs.Decoded.{Decoded}
use Rattle.nfg_syn.specs.Known.{Texts, IsKnowledge}
use Rattle.nfg_syn.specs.Seen.{Seen, Keeps}
use Rattle.nfg_strand.specs.Value.{Rope}
use Rattle.nfg_syn.specs.Learned.{StopsAt, first_long}
use Rattle.nfg_work.specs.declared.evaluation.Evaluation.{Evaluation}
use Rattle.nfg_work.specs.declared.output.Cause.TheVariants.{AllTooLong, ClusterTooLong, Malformed as TextMalformed}
use Rattle.nfg_work.specs.declared.output.FileRead.{FileRead}
use Rattle.nfg_work.specs.declared.stop.Stop.{Stop}
use Rattle.nfg_work.specs.declared.stop.Stop.TheVariants.{Refused, RowFull, NoPortion, OutOfMemory}
use Rattle.nfg_work.specs.Values.{Value, flat}
use Rattle.nfg_work.specs.Evaluation.{State, used_with, with_places, define_value, define_decoded}
use Rattle.nfg_work.specs.Holding.{Holds, Follows, IsRefusedBy, IsDefined}
use Rattle.nfg_work.specs.Making.{HasString, IsMadeOf, IsStopAfter, unless_long, file_value}
use Rattle.nfg_work.proofs.InUse.{AreNumbered-made, Grows-learned, numbered_fit}
use Rattle.nfg_work.proofs.Wanted.{unless_long-ok, unless_long-err}
use Rattle.nfg_work.proofs.Strings.{AreStringsOf-grows, AreStringsOf-push}

-- the state once the next name has this value
abbrev defined_state : State → ℕ → Value → State
defined_state state cost value = record {
  values = state.values ++ value ∷ [];
  used = used_with state value.clusters;
  spent = state.spent + cost;
  reads = state.reads;
  output = state.output;
}

define_value-over : (places : ℕ) (state : State) (cost : ℕ) (value : Value) → nat_lt 536870912 (state.spent + cost) ≡ true
    → define_value places state cost value ≡ Err AllTooLong
define_value-over places state cost value over = rw over refl

define_value-long : (places : ℕ) (state : State) (cost at : ℕ) (value : Value) → nat_lt 536870912 (state.spent + cost) ≡ false
    → first_long value.clusters ≡ Some at → define_value places state cost value ≡ Err (ClusterTooLong at)
define_value-long places state cost at value fits long = rw (fits, long) refl

-- the state once the next name has this value, before its clusters take places
abbrev with_value : State → ℕ → Value → State
with_value state cost value = record state { values = state.values ++ value ∷ []; spent = state.spent + cost }

define_value-places : (places : ℕ) (state : State) (cost : ℕ) (value : Value) → nat_lt 536870912 (state.spent + cost) ≡ false
    → first_long value.clusters ≡ None → define_value places state cost value ≡ with_places places (used_with state value.clusters) (with_value state cost value)
define_value-places places state cost value fits short = rw (fits, short) refl

define_value-ok : (places : ℕ) (state : State) (cost : ℕ) (value : Value) → nat_lt 536870912 (state.spent + cost) ≡ false
    → first_long value.clusters ≡ None → nat_lt places (distinct_count bytes_eq (used_with state value.clusters)) ≡ false
    → define_value places state cost value ≡ Ok (defined_state state cost value)
define_value-ok places state cost value fits short few = rw (fits, short, few) refl

pub spent_same : (cost : ℕ) (known : Texts) (reads : List FileRead) (old : Evaluation) (state : State) (over : Bool) → Holds known reads old state
    → nat_lt 536870912 (old.spent + cost) ≡ over → nat_lt 536870912 (state.spent + cost) ≡ over
spent_same cost known reads old state over h e = ap (λ n. nat_lt 536870912 (n + cost)) (sym h.spent) ∙ e

-- such a string is the next name's
pub value_follows : (places cost : ℕ) (pass after : Seen) (reads : List FileRead) (old new : Evaluation) (string : Rope) (result : Result (Unit {0}) Stop)
    (value : Value) (state : State) → Holds pass.known reads old state → nat_lt 536870912 (old.spent + cost) ≡ false
    → IsKnowledge places after.known after.places → Keeps pass after → HasString value pass.known after.known string
    → OnOk result (IsDefined old new cost string) → IfErr result (λ stop. stop ≡ OutOfMemory)
    → Follows places pass after reads state.used old new result (define_value places state cost value)
value_follows places cost pass after reads old new string (Ok done) value state h fits knows keeps has d none =
    let fit = spent_same cost pass.known reads old state false h fits in
    let numbered = AreNumbered-made pass.known after.known state.used value.clusters string.graphemes knows.line_end keeps.known h.used has.is.represents in
    let few = numbered_fit places after.known after.places (used_with state value.clusters) knows numbered in
    let strings = AreStringsOf-push after.known old.strings.items state.values string value
    (AreStringsOf-grows pass.known after.known keeps.known old.strings.items state.values h.strings) has.is in (
      defined_state state cost value,
      define_value-ok places state cost value fit has.short few,
      record {
        strings = rw d.strings strings;
        used = numbered;
        spent = d.spent ∙ ap (λ n. n + cost) h.spent;
        output = d.output ∙ h.output;
        left = rw d.next_read h.left;
      },
      Grows-learned places pass.known after.known after.places state.used value.clusters knows has.learned,
    )
value_follows places cost pass after reads old new string (Err (Refused cause)) value state h fits knows keeps has d none = cc
value_follows places cost pass after reads old new string (Err RowFull) value state h fits knows keeps has d none = cc
value_follows places cost pass after reads old new string (Err NoPortion) value state h fits knows keeps has d none = cc
value_follows places cost pass after reads old new string (Err OutOfMemory) value state h fits knows keeps has d none = tt

-- the first cluster that is too long is that of the step
pub long_follows : (places cost at : ℕ) (pass after : Seen) (reads : List FileRead) (old new : Evaluation) (value : Value) (state : State) → Holds pass.known reads old state
    → nat_lt 536870912 (old.spent + cost) ≡ false → first_long value.clusters ≡ Some at → new.output ≡ old.output
    → Follows places pass after reads state.used old new (Err (Refused (ClusterTooLong at))) (define_value places state cost value)
long_follows places cost at pass after reads old new value state h fits long same =
    (define_value-long places state cost at value (spent_same cost pass.known reads old state false h fits) long, same)

-- the table refuses a cluster of the value
pub refused_by : (places cost : ℕ) (pass after : Texts) (reads : List FileRead) (old : Evaluation) (value : Value) (state : State) (Reason : List ℕ → Type 0)
    → Holds pass reads old state → nat_lt 536870912 (old.spent + cost) ≡ false → StopsAt value.clusters pass after Reason
    → IsRefusedBy places state.used pass after Reason (define_value places state cost value)
refused_by places cost pass after reads old value state Reason h fits stops = record {
  clusters = value.clusters;
  next = with_value state cost value;
  step_is = define_value-places places state cost value (spent_same cost pass reads old state false h fits) stops.short;
  stops = stops;
}

-- a string that was made is the next name's
pub made_follows : (places cost : ℕ) (pass after : Seen) (reads : List FileRead) (old new : Evaluation) (string : Rope) (result : Result (Unit {0}) Stop)
    (value : Value) (state : State) → Holds pass.known reads old state → nat_lt 536870912 (old.spent + cost) ≡ false
    → IsKnowledge places after.known after.places → Keeps pass after → IsMadeOf (unless_long value) pass after (Ok string)
    → OnOk result (IsDefined old new cost string) → IfErr result (λ stop. stop ≡ OutOfMemory)
    → Follows places pass after reads state.used old new result (define_value places state cost value)
made_follows places cost pass after reads old new string result value state h fits knows keeps made d none =
    let is = (unless_long-ok value made.0 made.1).1 in
    value_follows places cost pass after reads old new string result value state h fits knows keeps
    (subst (λ v. HasString v pass.known after.known string) (sym is) made.2) d none

-- a string that was not made
pub stopped_follows : (places cost : ℕ) (pass after : Seen) (reads : List FileRead) (old new : Evaluation) (stop : Stop) (value : Value) (state : State)
    → Holds pass.known reads old state → nat_lt 536870912 (old.spent + cost) ≡ false → IsMadeOf (unless_long value) pass after (Err stop)
    → new.output ≡ old.output → Follows places pass after reads state.used old new (Err stop) (define_value places state cost value)
stopped_follows places cost pass after reads old new (Refused cause) value state h fits made same =
    let long = unless_long-err value cause made.0 in
    (define_value-long places state cost long.0 value (spent_same cost pass.known reads old state false h fits) long.1 ∙ ap (λ c. Err c) (sym long.2), same)
stopped_follows places cost pass after reads old new RowFull value state h fits made same =
    let is = (unless_long-ok value made.0 made.1).1 in (
      refused_by places cost pass.known after.known reads old value state after.full h fits
          (subst (λ v. StopsAt v.clusters pass.known after.known after.full) (sym is) made.2),
      same,
    )
stopped_follows places cost pass after reads old new NoPortion value state h fits made same =
    let is = (unless_long-ok value made.0 made.1).1 in (
      refused_by places cost pass.known after.known reads old value state (λ _. after.drained) h fits
          (subst (λ v. StopsAt v.clusters pass.known after.known (λ _. after.drained)) (sym is) made.2),
      same,
    )
stopped_follows places cost pass after reads old new OutOfMemory value state h fits made same = tt

-- the same for bytes that decode so
pub file_follows : (places cost : ℕ) (pass after : Seen) (reads : List FileRead) (old new : Evaluation) (string : Rope) (result : Result (Unit {0}) Stop)
    (decoded : Decoded) (state : State) → Holds pass.known reads old state → nat_lt 536870912 (old.spent + cost) ≡ false
    → IsKnowledge places after.known after.places → Keeps pass after → IsMadeOf (file_value decoded) pass after (Ok string)
    → OnOk result (IsDefined old new cost string) → IfErr result (λ stop. stop ≡ OutOfMemory)
    → Follows places pass after reads state.used old new result (define_decoded places state cost decoded)
file_follows places cost pass after reads old new string result (Ok text) state h fits knows keeps made d none =
    made_follows places cost pass after reads old new string result (flat (graphemes_of text)) state h fits knows keeps made d none
file_follows places cost pass after reads old new string result (Err at) state h fits knows keeps made d none = let never = made.1 in cc

-- a load whose text costs too much
over_follows : (places cost : ℕ) (pass after : Seen) (reads : List FileRead) (old new : Evaluation) (stop : Stop) (value : Value) (state : State)
    → Holds pass.known reads old state → nat_lt 536870912 (old.spent + cost) ≡ true → stop ≡ Refused AllTooLong → new.output ≡ old.output
    → Follows places pass after reads state.used old new (Err stop) (define_value places state cost value)
over_follows places cost pass after reads old new stop value state h e is same =
    rw is (define_value-over places state cost value (spent_same cost pass.known reads old state true h e), same)

-- a text that costs too much, before anything is made
pub value_over : (places cost : ℕ) (pass : Seen) (reads : List FileRead) (old new : Evaluation) (value : Value) (state : State) → Holds pass.known reads old state
    → nat_lt 536870912 (old.spent + cost) ≡ true → new.output ≡ old.output
    → Follows places pass pass reads state.used old new (Err (Refused AllTooLong)) (define_value places state cost value)
value_over places cost pass reads old new value state h e same = over_follows places cost pass pass reads old new (Refused AllTooLong) value state h e refl same

pub file_over : (places cost : ℕ) (pass after : Seen) (reads : List FileRead) (old new : Evaluation) (string : Rope)
    (decoded : Decoded) (state : State) → Holds pass.known reads old state → nat_lt 536870912 (old.spent + cost) ≡ true
    → IsMadeOf (file_value decoded) pass after (Ok string) → new.output ≡ old.output
    → Follows places pass after reads state.used old new (Err (Refused AllTooLong)) (define_decoded places state cost decoded)
file_over places cost pass after reads old new string (Ok text) state h e made same =
    over_follows places cost pass after reads old new (Refused AllTooLong) (flat (graphemes_of text)) state h e refl same
file_over places cost pass after reads old new string (Err place) state h e made same = let never = made.1 in cc

-- a text whose string was not made, and may cost too much
text_stopped_follows : (places cost : ℕ) (pass after : Seen) (reads : List FileRead) (old new : Evaluation) (stop told : Stop) (over : Bool) (value : Value) (state : State)
    → Holds pass.known reads old state → nat_lt 536870912 (old.spent + cost) ≡ over → IsMadeOf (unless_long value) pass after (Err stop)
    → IsStopAfter over stop told → new.output ≡ old.output → Follows places pass after reads state.used old new (Err told) (define_value places state cost value)
text_stopped_follows places cost pass after reads old new (Refused cause) told over value state h e made is same =
    let long = unless_long-err value cause made.0 in
    by over (subst (λ c. IsStopAfter over (Refused c) told) long.2 is) e (subst (λ c. IsMadeOf (unless_long value) pass after (Err (Refused c))) long.2 made)
  where
    by : {at : ℕ} (b : Bool) → IsStopAfter b (Refused (ClusterTooLong at)) told → nat_lt 536870912 (old.spent + cost) ≡ b
        → IsMadeOf (unless_long value) pass after (Err (Refused (ClusterTooLong at))) → Follows places pass after reads state.used old new (Err told) (define_value places state cost value)
    by true stops much so = over_follows places cost pass after reads old new told value state h much stops same
    by false stops fits so = rw stops (stopped_follows places cost pass after reads old new (Refused (ClusterTooLong _)) value state h fits so same)
text_stopped_follows places cost pass after reads old new RowFull told true value state h e made is same = over_follows places cost pass after reads old new told value state h e is same
text_stopped_follows places cost pass after reads old new RowFull told false value state h e made is same = rw is (stopped_follows places cost pass after reads old new RowFull value state h e made same)
text_stopped_follows places cost pass after reads old new NoPortion told true value state h e made is same = over_follows places cost pass after reads old new told value state h e is same
text_stopped_follows places cost pass after reads old new NoPortion told false value state h e made is same = rw is (stopped_follows places cost pass after reads old new NoPortion value state h e made same)
text_stopped_follows places cost pass after reads old new OutOfMemory told over value state h e made is same = rw is tt

-- a file whose string was not made: malformed bytes come first, and then the cost
pub file_stopped_follows : (places cost : ℕ) (pass after : Seen) (reads : List FileRead) (old new : Evaluation) (stop told : Stop) (over : Bool) (decoded : Decoded) (state : State)
    → Holds pass.known reads old state → nat_lt 536870912 (old.spent + cost) ≡ over → IsMadeOf (file_value decoded) pass after (Err stop)
    → IsStopAfter over stop told → new.output ≡ old.output → Follows places pass after reads state.used old new (Err told) (define_decoded places state cost decoded)
file_stopped_follows places cost pass after reads old new stop told over (Ok text) state h e made is same =
    text_stopped_follows places cost pass after reads old new stop told over (flat (graphemes_of text)) state h e made is same
file_stopped_follows places cost pass after reads old new (Refused cause) told over (Err at) state h e made is same =
    let cause_is : cause ≡ TextMalformed at = let so = made.0 in cc in
    let told_is : told ≡ Refused (TextMalformed at) = subst (λ c. IsStopAfter over (Refused c) told) cause_is is in
    rw told_is (refl, same)
file_stopped_follows places cost pass after reads old new RowFull told over (Err at) state h e made is same = let never = made.1 in cc
file_stopped_follows places cost pass after reads old new NoPortion told over (Err at) state h e made is same = let never = made.1 in cc
file_stopped_follows places cost pass after reads old new OutOfMemory told over (Err at) state h e made is same = rw is tt
