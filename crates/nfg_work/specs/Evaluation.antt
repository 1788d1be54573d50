-- Scripts are evaluated over plain lists of clusters, a command at a time (this project's own).
use Rattle.std.specs.Prelude.{ℕ, ◌+◌, ◌*◌, ◌≤◌, Bool, not, ◌&&◌, List, [], ◌∷◌, ◌++◌, filter, length, bytes_eq, nat_lt, position, slice_index_or, All, Option, Some, None, Result, Ok, Err, if◌then◌else◌}
use Rattle.std.specs.List.{list_all}
use Rattle.std.specs.Set.{distinct_count}
use Rattle.std.specs.Fmt.{decimal}
use Rattle.nfg_text.specs.Forms.{nfd}
use Rattle.nfg_text.specs.Graphemes.{graphemes_of}
use Rattle.nfg_text.specs.Operations.{first_place, last_place, text_order}
use Rattle.nfg_text.specs.Text.{text_of}
use Rattle.nfg_decode.specs.declared.encoding.Encoding.{Encoding}
use Rattle.nfg_decode.specs.Decoded.{Decoded}
use Rattle.nfg_decode.specs.Encoding.{decode, encode, has_code}
use Rattle.nfg_syn.specs.Learned.{first_long}
use Rattle.nfg_seam.specs.ClusterPieces.{is_line_end}
use Rattle.nfg_script.specs.declared.command.Command.{Command}
use Rattle.nfg_script.specs.declared.command.Command.TheVariants.{Load, Text, Cat, Sub, Rep, Find, Rfind, Eq, Cmp, Len, Show, Shape, Put}
use Rattle.nfg_script.specs.Script.{NumberedCommand}
use Rattle.nfg_work.specs.declared.output.Cause.{Cause}
use Rattle.nfg_work.specs.declared.output.Cause.TheVariants.{CannotRead, FileTooLong, Malformed, OutOfRange, NotEncodable, StringTooLong, AllTooLong, ClusterTooLong, TableFull, OutputTooLong}
use Rattle.nfg_work.specs.declared.output.FileRead.{FileRead}
use Rattle.nfg_work.specs.declared.output.FileRead.TheVariants.{Bytes, TooLong, Failed}
use Rattle.nfg_work.specs.declared.output.Output.{Output}
use Rattle.nfg_work.specs.Values.{Value, no_value, flat, part, joined, repeated}
use Rattle.nfg_work.specs.Printing.{shown, shape, place_text, truth_text, order_text, line_of}

-- what the evaluation keeps between two commands
pub record State : Type 0 where
  -- the value of each name, in the order of definitions
  pub values : List Value
  -- the clusters of all values that take a place of the table
  pub used : List (List ℕ)
  -- what all values have cost
  pub spent : ℕ
  -- what was read for the loads to come
  pub reads : List FileRead
  pub output : List ℕ

-- what all values of a script may cost together
abbrev pub cost_limit : ℕ
cost_limit = 536870912

-- the most bytes of output
abbrev pub output_limit : ℕ
output_limit = 268435456

-- the value of a name
abbrev pub value_of : State → ℕ → Value
value_of state name = slice_index_or state.values name no_value

-- a cluster takes a place of the table where it has two or more code points and isn't CR LF
abbrev pub takes_place : List ℕ → Bool
takes_place cluster = nat_lt 1 (length cluster) && not (is_line_end cluster)

-- the clusters that take places once these clusters are a value too
abbrev pub used_with : State → List (List ℕ) → List (List ℕ)
used_with state clusters = state.used ++ filter takes_place clusters

-- the next name gets a value of this cost, unless all values together cost too much
abbrev pub define : State → (cost : ℕ) → Value → Result State Cause
define state cost value =
    if nat_lt cost_limit (state.spent + cost) then Err AllTooLong
    else Ok (record state { values = state.values ++ value ∷ []; spent = state.spent + cost })

-- the clusters may take these places of the table
abbrev pub with_places : (places : ℕ) → List (List ℕ) → State → Result State Cause
with_places places used state =
    if nat_lt places (distinct_count bytes_eq used) then Err TableFull else Ok (record state { used = used })

-- no cluster is too long, and they may take places of the table
abbrev pub with_clusters : (places : ℕ) → List (List ℕ) → Option ℕ → Result State Cause → Result State Cause
with_clusters places used first (Err cause) = Err cause
with_clusters places used (Some at) (Ok state) = Err (ClusterTooLong at)
with_clusters places used None (Ok state) = with_places places used state

-- the next name gets a value with new clusters, at this cost
abbrev pub define_value : (places : ℕ) → State → (cost : ℕ) → Value → Result State Cause
define_value places state cost value =
    with_clusters places (used_with state value.clusters) (first_long value.clusters) (define state cost value)

-- the next name gets these clusters, at this cost
abbrev pub define_new : (places : ℕ) → State → (cost : ℕ) → List (List ℕ) → Result State Cause
define_new places state cost clusters = define_value places state cost (flat clusters)

-- the most graphemes that a line joins
abbrev pub join_limit : ℕ
join_limit = 67108864

-- the next name gets what so many graphemes give that are joined, at the cost of one each
abbrev pub define_joined : (places : ℕ) → State → (count : ℕ) → Value → Result State Cause
define_joined places state count value =
    if nat_lt join_limit count then Err StringTooLong else define_value places state count value

-- the next name gets two values, joined
abbrev pub define_cat : (places : ℕ) → State → Value → Value → Result State Cause
define_cat places state a b = define_joined places state (length a.clusters + length b.clusters) (joined a b)

-- the next name gets a value, repeated
abbrev pub define_rep : (places : ℕ) → State → Value → (count : ℕ) → Result State Cause
define_rep places state a count = define_joined places state (length a.clusters * count) (repeated a count)

-- the next name gets the text that bytes decode to, at this cost
abbrev pub define_decoded : (places : ℕ) → State → (cost : ℕ) → Decoded → Result State Cause
define_decoded places state cost (Ok text) = define_new places state cost (graphemes_of text)
define_decoded places state cost (Err at) = Err (Malformed at)

-- the next name gets the text of what was read
abbrev pub define_read : (places : ℕ) → State → Encoding → FileRead → Result State Cause
define_read places state e Failed = Err CannotRead
define_read places state e TooLong = Err FileTooLong
define_read places state e (Bytes bytes) = define_decoded places state (length bytes) (decode e bytes)

-- a load takes the next of what was read
abbrev pub load : (places : ℕ) → State → Encoding → List FileRead → Result State Cause
load places state e [] = Err CannotRead
load places state e (read ∷ reads) = define_read places (record state { reads = reads }) e read

-- the next name gets a part of a value, at the cost of the part's length
abbrev pub define_part : State → Value → (start count : ℕ) → Result State Cause
define_part state value start count =
    if nat_lt (length value.clusters) start then Err OutOfRange
    else define state (length (part value start count).clusters) (part value start count)

-- the output grows by these bytes
abbrev pub print : State → List ℕ → Result State Cause
print state bytes =
    if nat_lt output_limit (length (state.output ++ bytes)) then Err OutputTooLong
    else Ok (record state { output = state.output ++ bytes })

-- the encoding lacks a code point of the cluster
abbrev pub is_lacking : Encoding → List ℕ → Bool
is_lacking e cluster = not (list_all (has_code e) cluster)

-- the first cluster with a code point that the encoding lacks
abbrev pub first_lacking : Encoding → List (List ℕ) → Option ℕ
first_lacking e clusters = position (is_lacking e) clusters

-- the output grows by bytes, unless a cluster isn't encodable
abbrev pub put : State → List ℕ → Option ℕ → Result State Cause
put state bytes (Some at) = Err (NotEncodable at)
put state bytes None = print state bytes

-- the texts of both lists of clusters are canonically equivalent: they have one NFD
abbrev pub are_equivalent : (a b : List (List ℕ)) → Bool
are_equivalent a b = bytes_eq (nfd (text_of a)) (nfd (text_of b))

-- the output grows by a line
abbrev pub print_line : State → List ℕ → Result State Cause
print_line state text = print state (line_of text)

-- one command: the state behind it, or the cause of its refusal
abbrev pub step : (places : ℕ) → State → NumberedCommand → Command → Result State Cause
step places state numbered (Load name enc) = load places state enc state.reads
step places state numbered (Text name) = define_new places state (length numbered.codes) (graphemes_of numbered.codes)
step places state numbered (Cat name a b) = define_cat places state (value_of state a) (value_of state b)
step places state numbered (Sub name a start count) = define_part state (value_of state a) start count
step places state numbered (Rep name a count) = define_rep places state (value_of state a) count
step places state numbered (Find a b at) =
    print_line state (place_text (first_place (value_of state a).clusters (value_of state b).clusters at))
step places state numbered (Rfind a b at) =
    print_line state (place_text (last_place (value_of state a).clusters (value_of state b).clusters at))
step places state numbered (Eq a b) =
    print_line state (truth_text (are_equivalent (value_of state a).clusters (value_of state b).clusters))
step places state numbered (Cmp a b) =
    print_line state (order_text (text_order (value_of state a).clusters (value_of state b).clusters))
step places state numbered (Len a) = print_line state (decimal (length (value_of state a).clusters))
step places state numbered (Show a) = print_line state (shown (value_of state a).clusters)
step places state numbered (Shape a) = print_line state (shape (value_of state a).pieces)
step places state numbered (Put a enc) =
    put state (encode enc (text_of (value_of state a).clusters)) (first_lacking enc (value_of state a).clusters)

-- the first refused command ends the evaluation
abbrev pub evaluate_from : (places : ℕ) → State → List NumberedCommand → Output
evaluate_from places state [] = record { bytes = state.output; refused = None }
evaluate_from places state (numbered ∷ script) = elim (step places state numbered numbered.command) [
  | Ok next ↦ evaluate_from places next script
  | Err cause ↦ record {
    bytes = state.output;
    refused = Some (record { line = numbered.line; cause = cause });
  }
]

-- nothing is defined or printed yet
abbrev pub first_state : List FileRead → State
first_state reads = record { values = []; used = []; spent = 0; reads = reads; output = [] }

-- the output of a script, from what was read for its loads, over a table of so many places
unfoldable pub evaluate : List NumberedCommand → List FileRead → (places : ℕ) → Output
evaluate script reads places = evaluate_from places (first_state reads) script

-- the most bytes of one file
abbrev pub file_limit : ℕ
file_limit = 67108864

-- what was read, a file where there is one, has no more
abbrev pub IsWithinLimit : FileRead → Type 0
IsWithinLimit (Bytes bytes) = length bytes ≤ file_limit
IsWithinLimit TooLong = Unit {0}
IsWithinLimit Failed = Unit {0}

-- no file of those that were read has more
abbrev pub AreWithinLimit : List FileRead → Type 0
AreWithinLimit reads = All IsWithinLimit reads
