-- Each value is a list of graphemes.
use Rattle.std.proofs.Common.{◌≡◌, ℕ, zero, suc, ◌+◌, ◌*◌, Bool, true, false, nat_lt, List, [], ◌∷◌, ◌++◌, length, take, drop, slice_index_or, Option, Some, None, Result, Ok, Err, IfOk, if◌then◌else◌, refl, sym, subst, take-append-drop}
use Rattle.std.specs.List.{repeat}
use Rattle.nfg_text.specs.Graphemes.{graphemes_of, IsInNfg}
use Rattle.nfg_text.specs.Text.{text_of}
use Rattle.nfg_text.proofs.Proved.{graphemes_are_in_nfg, parts_are_in_nfg}
use Rattle.nfg_decode.specs.declared.encoding.Encoding.{Encoding}
use Rattle.nfg_decode.specs.Decoded.{Decoded}
use Rattle.nfg_decode.specs.Encoding.{decode}
use Rattle.nfg_syn.specs.Learned.{first_long}
use Rattle.nfg_script.specs.declared.command.Command.{Command}
use Rattle.nfg_script.specs.declared.command.Command.TheVariants.{Load, Text, Cat, Sub, Rep, Find, Rfind, Eq, Cmp, Len, Show, Shape, Put}
use Rattle.nfg_script.specs.Script.{NumberedCommand}
use Rattle.nfg_work.specs.declared.output.Cause.{Cause}
use Rattle.nfg_work.specs.declared.output.Cause.TheVariants.{OutOfRange, StringTooLong, AllTooLong, TableFull, OutputTooLong}
use Rattle.nfg_work.specs.declared.output.FileRead.{FileRead}
use Rattle.nfg_work.specs.declared.output.FileRead.TheVariants.{Bytes, TooLong, Failed}
use Rattle.nfg_work.specs.declared.output.Output.{Output}
use Rattle.nfg_work.specs.Values.{Value, no_value, flat, part, joined, repeated}
use Rattle.nfg_work.specs.Evaluation.{State, cost_limit, output_limit, value_of, used_with, define, with_clusters, define_value, define_new, define_joined, join_limit, define_decoded, define_read, load, define_part, print, put, step, evaluate_from, evaluate, first_state}
use Rattle.nfg_work.specs.Laws.{state_after, AllInNfg, EvaluationGoesOn, ValuesAreInNfg, PartIsInNfg}

nothing_is_in_nfg : IsInNfg []
nothing_is_in_nfg = (parts_are_in_nfg [] (graphemes_of []) (graphemes_are_in_nfg [])).0

pub part_is_in_nfg : PartIsInNfg
part_is_in_nfg list start count all =
    let back = drop start list in
    let last = (parts_are_in_nfg (take start list) back (subst IsInNfg (sym (take-append-drop start list)) all)).1 in
    (parts_are_in_nfg (take count back) (drop count back) (subst IsInNfg (sym (take-append-drop count back)) last)).0

-- one value more
with_value : (values : List Value) (value : Value) → ((name : ℕ) → IsInNfg (slice_index_or values name no_value).clusters) → IsInNfg value.clusters
    → (name : ℕ) → IsInNfg (slice_index_or (values ++ value ∷ []) name no_value).clusters
with_value [] value all is zero = is
with_value [] value all is (suc name) = nothing_is_in_nfg
with_value (v ∷ values) value all is zero = all 0
with_value (v ∷ values) value all is (suc name) = with_value values value (λ k. all (suc k)) is name

unless : (refused : Bool) (cause : Cause) (result : Result State Cause) → IfOk result AllInNfg → IfOk (if refused then Err cause else result) AllInNfg
unless true cause result all = tt
unless false cause result all = all

define_keeps : (state : State) (cost : ℕ) (value : Value) → AllInNfg state → IsInNfg value.clusters → IfOk (define state cost value) AllInNfg
define_keeps state cost value all is =
    unless (nat_lt cost_limit (state.spent + cost)) AllTooLong (Ok (record state { values = state.values ++ value ∷ []; spent = state.spent + cost }))
    (with_value state.values value all is)

with_clusters_keeps : (places : ℕ) (used : List (List ℕ)) (first : Option ℕ) (result : Result State Cause) → IfOk result AllInNfg
    → IfOk (with_clusters places used first result) AllInNfg
with_clusters_keeps places used first (Err cause) all = tt
with_clusters_keeps places used (Some at) (Ok state) all = tt
with_clusters_keeps places used None (Ok state) all = unless _ TableFull (Ok (record state { used = used })) all

define_value_keeps : (places : ℕ) (state : State) (cost : ℕ) (value : Value) → AllInNfg state → IsInNfg value.clusters
    → IfOk (define_value places state cost value) AllInNfg
define_value_keeps places state cost value all is =
    with_clusters_keeps places (used_with state value.clusters) (first_long value.clusters) (define state cost value) (define_keeps state cost value all is)

define_new_keeps : (places : ℕ) (state : State) (cost : ℕ) (t : List ℕ) → AllInNfg state → IfOk (define_new places state cost (graphemes_of t)) AllInNfg
define_new_keeps places state cost t all = define_value_keeps places state cost (flat (graphemes_of t)) all (graphemes_are_in_nfg t)

define_joined_keeps : (places : ℕ) (state : State) (count : ℕ) (value : Value) → AllInNfg state → IsInNfg value.clusters
    → IfOk (define_joined places state count value) AllInNfg
define_joined_keeps places state count value all is =
    unless (nat_lt join_limit count) StringTooLong (define_value places state count value) (define_value_keeps places state count value all is)

define_decoded_keeps : (places : ℕ) (state : State) (cost : ℕ) (decoded : Decoded) → AllInNfg state → IfOk (define_decoded places state cost decoded) AllInNfg
define_decoded_keeps places state cost (Ok t) all = define_new_keeps places state cost t all
define_decoded_keeps places state cost (Err at) all = tt

define_read_keeps : (places : ℕ) (state : State) (e : Encoding) (read : FileRead) → AllInNfg state → IfOk (define_read places state e read) AllInNfg
define_read_keeps places state e Failed all = tt
define_read_keeps places state e TooLong all = tt
define_read_keeps places state e (Bytes bytes) all = define_decoded_keeps places state (length bytes) (decode e bytes) all

load_keeps : (places : ℕ) (state : State) (e : Encoding) (reads : List FileRead) → AllInNfg state → IfOk (load places state e reads) AllInNfg
load_keeps places state e [] all = tt
load_keeps places state e (read ∷ reads) all = define_read_keeps places (record state { reads = reads }) e read all

define_part_keeps : (state : State) (value : Value) (start count : ℕ) → AllInNfg state → IsInNfg value.clusters → IfOk (define_part state value start count) AllInNfg
define_part_keeps state value start count all is =
    let made = part value start count in
    unless (nat_lt (length value.clusters) start) OutOfRange (define state (length made.clusters) made)
    (define_keeps state (length made.clusters) made all (part_is_in_nfg value.clusters start count is))

print_keeps : (state : State) (bytes : List ℕ) → AllInNfg state → IfOk (print state bytes) AllInNfg
print_keeps state bytes all = unless (nat_lt output_limit (length (state.output ++ bytes))) OutputTooLong (Ok (record state { output = state.output ++ bytes })) all

put_keeps : (state : State) (bytes : List ℕ) (lacking : Option ℕ) → AllInNfg state → IfOk (put state bytes lacking) AllInNfg
put_keeps state bytes (Some at) all = tt
put_keeps state bytes None all = print_keeps state bytes all

step_keeps : (places : ℕ) (state : State) (numbered : NumberedCommand) (command : Command) → AllInNfg state → IfOk (step places state numbered command) AllInNfg
step_keeps places state numbered (Load name enc) all = load_keeps places state enc state.reads all
step_keeps places state numbered (Text name) all = define_new_keeps places state (length numbered.codes) numbered.codes all
step_keeps places state numbered (Cat name a b) all =
    let left = value_of state a in
    let right = value_of state b in
    define_joined_keeps places state (length left.clusters + length right.clusters) (joined left right) all (graphemes_are_in_nfg (text_of left.clusters ++ text_of right.clusters))
step_keeps places state numbered (Sub name a start count) all = define_part_keeps state (value_of state a) start count all (all a)
step_keeps places state numbered (Rep name a count) all =
    let value = value_of state a in
    define_joined_keeps places state (length value.clusters * count) (repeated value count) all (graphemes_are_in_nfg (repeat count (text_of value.clusters)))
step_keeps places state numbered (Find a b at) all = print_keeps state _ all
step_keeps places state numbered (Rfind a b at) all = print_keeps state _ all
step_keeps places state numbered (Eq a b) all = print_keeps state _ all
step_keeps places state numbered (Cmp a b) all = print_keeps state _ all
step_keeps places state numbered (Len a) all = print_keeps state _ all
step_keeps places state numbered (Show a) all = print_keeps state _ all
step_keeps places state numbered (Shape a) all = print_keeps state _ all
step_keeps places state numbered (Put a enc) all = put_keeps state _ _ all

-- what the lines behind a line lead to, where it isn't refused
abbrev rest_of : (places : ℕ) → List NumberedCommand → Result State Cause → Result State Cause
rest_of places lines result = elim result [
  | Ok next ↦ state_after places next lines
  | Err cause ↦ Err cause
]

rest_keeps : (places : ℕ) (lines : List NumberedCommand) (result : Result State Cause)
    → ((next : State) → AllInNfg next → IfOk (state_after places next lines) AllInNfg) → IfOk result AllInNfg → IfOk (rest_of places lines result) AllInNfg
rest_keeps places lines (Ok next) rest all = rest next all
rest_keeps places lines (Err cause) rest all = tt

lines_keep : (places : ℕ) (state : State) (lines : List NumberedCommand) → AllInNfg state → IfOk (state_after places state lines) AllInNfg
lines_keep places state [] all = all
lines_keep places state (numbered ∷ lines) all =
    rest_keeps places lines (step places state numbered numbered.command) (λ next. lines_keep places next lines) (step_keeps places state numbered numbered.command all)

-- before the first line there is none
pub first_in_nfg : (reads : List FileRead) → AllInNfg (first_state reads)
first_in_nfg reads name = nothing_is_in_nfg

-- a command that is done keeps it so
pub next_in_nfg : (places : ℕ) (state next : State) (numbered : NumberedCommand) → AllInNfg state
    → step places state numbered numbered.command ≡ Ok next → AllInNfg next
next_in_nfg places state next numbered all done =
    subst (λ result. IfOk result AllInNfg) done (step_keeps places state numbered numbered.command all)

pub values_are_in_nfg : ValuesAreInNfg
values_are_in_nfg places reads lines = lines_keep places (first_state reads) lines (first_in_nfg reads)

-- what a script gives from a line on
abbrev output_of : (places : ℕ) → NumberedCommand → List NumberedCommand → (output : List ℕ) → Result State Cause → Output
output_of places numbered script output result = elim result [
  | Ok next ↦ evaluate_from places next script
  | Err cause ↦ record {
    bytes = output;
    refused = Some (record { line = numbered.line; cause = cause });
  }
]

rest_goes_on : (places : ℕ) (numbered : NumberedCommand) (lines more : List NumberedCommand) (output : List ℕ) (result : Result State Cause)
    → ((next : State) → IfOk (state_after places next lines) (λ last. evaluate_from places next (lines ++ more) ≡ evaluate_from places last more))
    → IfOk (rest_of places lines result) (λ last. output_of places numbered (lines ++ more) output result ≡ evaluate_from places last more)
rest_goes_on places numbered lines more output (Ok next) rest = rest next
rest_goes_on places numbered lines more output (Err cause) rest = tt

goes_on : (places : ℕ) (state : State) (lines more : List NumberedCommand)
    → IfOk (state_after places state lines) (λ last. evaluate_from places state (lines ++ more) ≡ evaluate_from places last more)
goes_on places state [] more = refl
goes_on places state (numbered ∷ lines) more =
    rest_goes_on places numbered lines more state.output (step places state numbered numbered.command) (λ next. goes_on places next lines more)

pub evaluation_goes_on : EvaluationGoesOn
unfolding evaluate
evaluation_goes_on places reads lines more = goes_on places (first_state reads) lines more
