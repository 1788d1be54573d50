-- A line is refused as one that can't be read only where what was read for it has failed.
use Rattle.std.proofs.Common.{◌≡◌, ℕ, ◌+◌, ◌*◌, Bool, true, false, nat_lt, List, [], ◌∷◌, ◌++◌, length, Option, Some, None, IfSome, Result, Ok, Err, if◌then◌else◌, refl, sym, subst}
use Rattle.nfg_text.specs.Graphemes.{graphemes_of}
use Rattle.nfg_decode.specs.declared.encoding.Encoding.{Encoding}
use Rattle.nfg_decode.specs.Decoded.{Decoded}
use Rattle.nfg_decode.specs.Encoding.{decode}
use Rattle.nfg_syn.specs.Learned.{first_long}
use Rattle.nfg_script.specs.declared.command.Command.{Command}
use Rattle.nfg_script.specs.declared.command.Command.TheVariants.{Load, Text, Cat, Sub, Rep, Find, Rfind, Eq, Cmp, Len, Show, Shape, Put}
use Rattle.nfg_script.specs.Script.{NumberedCommand, is_load, load_paths}
use Rattle.nfg_work.specs.declared.output.Cause.{Cause}
use Rattle.nfg_work.specs.declared.output.Cause.TheVariants.{CannotRead, OutOfRange, StringTooLong, AllTooLong, TableFull, OutputTooLong}
use Rattle.nfg_work.specs.declared.output.FileRead.{FileRead}
use Rattle.nfg_work.specs.declared.output.FileRead.TheVariants.{Bytes, TooLong, Failed}
use Rattle.nfg_work.specs.declared.output.Output.{Output}
use Rattle.nfg_work.specs.Values.{Value, flat, part, joined, repeated}
use Rattle.nfg_work.specs.Evaluation.{State, cost_limit, output_limit, value_of, used_with, define, with_clusters, define_value, define_joined, join_limit, define_decoded, load, define_part, print, put, step, evaluate_from, evaluate, first_state}
use Rattle.nfg_work.specs.Laws.{has_failed, HasEntries, FailedReadIsCause}

-- any cause but that of a file that can't be read
abbrev IsOther : Cause → Type 0
IsOther CannotRead = ⊥
IsOther _ = Unit {0}

-- a command leaves these entries to the loads behind it, or is refused for another cause than a file that can't be read
abbrev Leaves : List FileRead → Result State Cause → Type 0
Leaves reads (Ok next) = next.reads ≡ reads
Leaves reads (Err cause) = IsOther cause

unless : (reads : List FileRead) (refused : Bool) (cause : Cause) (result : Result State Cause) → IsOther cause → Leaves reads result
    → Leaves reads (if refused then Err cause else result)
unless reads true cause result other leaves = other
unless reads false cause result other leaves = leaves

define_leaves : (state : State) (cost : ℕ) (value : Value) → Leaves state.reads (define state cost value)
define_leaves state cost value =
    unless state.reads (nat_lt cost_limit (state.spent + cost)) AllTooLong (Ok (record state { values = state.values ++ value ∷ []; spent = state.spent + cost })) tt refl

with_clusters_leaves : (reads : List FileRead) (places : ℕ) (used : List (List ℕ)) (first : Option ℕ) (result : Result State Cause) → Leaves reads result
    → Leaves reads (with_clusters places used first result)
with_clusters_leaves reads places used first (Err cause) leaves = leaves
with_clusters_leaves reads places used (Some at) (Ok state) leaves = tt
with_clusters_leaves reads places used None (Ok state) leaves = unless reads _ TableFull (Ok (record state { used = used })) tt leaves

define_value_leaves : (places : ℕ) (state : State) (cost : ℕ) (value : Value) → Leaves state.reads (define_value places state cost value)
define_value_leaves places state cost value =
    with_clusters_leaves state.reads places (used_with state value.clusters) (first_long value.clusters) (define state cost value) (define_leaves state cost value)

define_joined_leaves : (places : ℕ) (state : State) (count : ℕ) (value : Value) → Leaves state.reads (define_joined places state count value)
define_joined_leaves places state count value =
    unless state.reads (nat_lt join_limit count) StringTooLong (define_value places state count value) tt (define_value_leaves places state count value)

define_decoded_leaves : (places : ℕ) (state : State) (cost : ℕ) (decoded : Decoded) → Leaves state.reads (define_decoded places state cost decoded)
define_decoded_leaves places state cost (Ok text) = define_value_leaves places state cost (flat (graphemes_of text))
define_decoded_leaves places state cost (Err at) = tt

define_part_leaves : (state : State) (value : Value) (start count : ℕ) → Leaves state.reads (define_part state value start count)
define_part_leaves state value start count =
    let made = part value start count in
    unless state.reads (nat_lt (length value.clusters) start) OutOfRange (define state (length made.clusters) made) tt
    (define_leaves state (length made.clusters) made)

print_leaves : (state : State) (bytes : List ℕ) → Leaves state.reads (print state bytes)
print_leaves state bytes =
    unless state.reads (nat_lt output_limit (length (state.output ++ bytes))) OutputTooLong (Ok (record state { output = state.output ++ bytes })) tt refl

put_leaves : (state : State) (bytes : List ℕ) (lacking : Option ℕ) → Leaves state.reads (put state bytes lacking)
put_leaves state bytes (Some at) = tt
put_leaves state bytes None = print_leaves state bytes

other_leaves : (places : ℕ) (state : State) (numbered : NumberedCommand) (command : Command) → is_load command ≡ false
    → Leaves state.reads (step places state numbered command)
other_leaves places state numbered (Load name enc) other = cc
other_leaves places state numbered (Text name) other = define_value_leaves places state (length numbered.codes) (flat (graphemes_of numbered.codes))
other_leaves places state numbered (Cat name a b) other =
    let left = value_of state a in
    let right = value_of state b in
    define_joined_leaves places state (length left.clusters + length right.clusters) (joined left right)
other_leaves places state numbered (Sub name a start count) other = define_part_leaves state (value_of state a) start count
other_leaves places state numbered (Rep name a count) other =
    let value = value_of state a in define_joined_leaves places state (length value.clusters * count) (repeated value count)
other_leaves places state numbered (Find a b at) other = print_leaves state _
other_leaves places state numbered (Rfind a b at) other = print_leaves state _
other_leaves places state numbered (Eq a b) other = print_leaves state _
other_leaves places state numbered (Cmp a b) other = print_leaves state _
other_leaves places state numbered (Len a) other = print_leaves state _
other_leaves places state numbered (Show a) other = print_leaves state _
other_leaves places state numbered (Shape a) other = print_leaves state _
other_leaves places state numbered (Put a enc) other = put_leaves state _ _

-- a refusal as one that can't be read wants a failed entry
abbrev HasReason : List FileRead → Output → Type 0
HasReason reads output = IfSome output.refused (λ refused. refused.cause ≡ CannotRead → has_failed reads ≡ true)

-- what a script gives from a line on
abbrev pub output_of : (places : ℕ) → (line : ℕ) → List NumberedCommand → (output : List ℕ) → Result State Cause → Output
output_of places line script output result = elim result [
  | Ok next ↦ evaluate_from places next script
  | Err cause ↦ record {
    bytes = output;
    refused = Some (record { line = line; cause = cause });
  }
]

-- the lines that are left have a reason, where they have their entries
abbrev HaveReason : (places : ℕ) → List NumberedCommand → List FileRead → Type 0
HaveReason places script reads =
    (next : State) → next.reads ≡ reads → HasEntries (load_paths script) next.reads → HasReason next.reads (evaluate_from places next script)

is_other : (cause : Cause) (failed : Bool) → IsOther cause → cause ≡ CannotRead → failed ≡ true
is_other cause failed other is = absurd (subst IsOther is other)

-- a command that leaves these entries
leaving : (places line : ℕ) (script : List NumberedCommand) (output : List ℕ) (reads : List FileRead) (result : Result State Cause)
    → Leaves reads result → HasEntries (load_paths script) reads → HaveReason places script reads
    → HasReason reads (output_of places line script output result)
leaving places line script output reads (Ok next) leaves entries rest =
    let there : HasEntries (load_paths script) next.reads = subst (HasEntries (load_paths script)) (sym leaves) entries in
    subst (λ v. HasReason v (evaluate_from places next script)) leaves (rest next leaves there)
leaving places line script output reads (Err cause) leaves entries rest = is_other cause (has_failed reads) leaves

-- a load
loading : (places line : ℕ) (script : List NumberedCommand) (output : List ℕ) (state : State) (enc : Encoding) (path : List ℕ) (reads : List FileRead)
    → HasEntries (path ∷ load_paths script) reads
    → ((left : List FileRead) → HaveReason places script left)
    → HasReason reads (output_of places line script output (load places state enc reads))
loading places line script output state enc path [] entries rest = absurd entries
loading places line script output state enc path (Failed ∷ reads) entries rest = λ is. refl
loading places line script output state enc path (TooLong ∷ reads) entries rest = λ is. cc
loading places line script output state enc path (Bytes bytes ∷ reads) entries rest =
    leaving places line script output reads (define_decoded places (record state { reads = reads }) (length bytes) (decode enc bytes))
    (define_decoded_leaves places (record state { reads = reads }) (length bytes) (decode enc bytes)) entries (rest reads)

-- a command, and the lines behind it
stepping : (places : ℕ) (state : State) (numbered : NumberedCommand) (command : Command) (script : List NumberedCommand)
    → HasEntries (if is_load command then numbered.path ∷ load_paths script else load_paths script) state.reads
    → ((left : List FileRead) → HaveReason places script left)
    → HasReason state.reads (output_of places numbered.line script state.output (step places state numbered command))
stepping places state numbered (Load name enc) script entries rest =
    loading places numbered.line script state.output state enc numbered.path state.reads entries rest
stepping places state numbered (Text name) script entries rest = leaving places numbered.line script state.output state.reads _ (other_leaves places state numbered (Text name) refl) entries (rest state.reads)
stepping places state numbered (Cat name a b) script entries rest = leaving places numbered.line script state.output state.reads _ (other_leaves places state numbered (Cat name a b) refl) entries (rest state.reads)
stepping places state numbered (Sub name a start count) script entries rest = leaving places numbered.line script state.output state.reads _ (other_leaves places state numbered (Sub name a start count) refl) entries (rest state.reads)
stepping places state numbered (Rep name a count) script entries rest = leaving places numbered.line script state.output state.reads _ (other_leaves places state numbered (Rep name a count) refl) entries (rest state.reads)
stepping places state numbered (Find a b at) script entries rest = leaving places numbered.line script state.output state.reads _ (other_leaves places state numbered (Find a b at) refl) entries (rest state.reads)
stepping places state numbered (Rfind a b at) script entries rest = leaving places numbered.line script state.output state.reads _ (other_leaves places state numbered (Rfind a b at) refl) entries (rest state.reads)
stepping places state numbered (Eq a b) script entries rest = leaving places numbered.line script state.output state.reads _ (other_leaves places state numbered (Eq a b) refl) entries (rest state.reads)
stepping places state numbered (Cmp a b) script entries rest = leaving places numbered.line script state.output state.reads _ (other_leaves places state numbered (Cmp a b) refl) entries (rest state.reads)
stepping places state numbered (Len a) script entries rest = leaving places numbered.line script state.output state.reads _ (other_leaves places state numbered (Len a) refl) entries (rest state.reads)
stepping places state numbered (Show a) script entries rest = leaving places numbered.line script state.output state.reads _ (other_leaves places state numbered (Show a) refl) entries (rest state.reads)
stepping places state numbered (Shape a) script entries rest = leaving places numbered.line script state.output state.reads _ (other_leaves places state numbered (Shape a) refl) entries (rest state.reads)
stepping places state numbered (Put a enc) script entries rest = leaving places numbered.line script state.output state.reads _ (other_leaves places state numbered (Put a enc) refl) entries (rest state.reads)

lines_have_reason : (places : ℕ) (state : State) (script : List NumberedCommand) → HasEntries (load_paths script) state.reads
    → HasReason state.reads (evaluate_from places state script)
lines_have_reason places state [] entries = tt
lines_have_reason places state (numbered ∷ script) entries =
    stepping places state numbered numbered.command script entries (λ left next same there. lines_have_reason places next script there)

pub failed_read_is_cause : FailedReadIsCause
unfolding evaluate
failed_read_is_cause places reads script entries = lines_have_reason places (first_state reads) script entries
