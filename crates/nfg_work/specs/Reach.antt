-- What a script can bring into a table: the clusters of its values, and those of parts of its files (this project's own).
use Rattle.std.specs.Prelude.{◌≡◌, ℕ, ◌+◌, ◌*◌, ◌≤◌, ◌⊎◌, true, List, [], ◌∷◌, ◌++◌, map, length, bytes_eq, nat_lt, slice_index_or, Option, Some, None, Ok, Err, IfOk, if◌then◌else◌}
use Rattle.std.specs.Set.{is_member}
use Rattle.nfg_text.specs.Graphemes.{graphemes_of}
use Rattle.nfg_decode.specs.declared.encoding.Encoding.{Encoding}
use Rattle.nfg_decode.specs.declared.encoding.Encoding.TheVariants.{Utf16, Utf16Le, Utf16Be}
use Rattle.nfg_decode.specs.Decoded.{Decoded}
use Rattle.nfg_decode.specs.Encoding.{decode}
use Rattle.nfg_syn.specs.Learned.{first_long}
use Rattle.nfg_script.specs.declared.command.Command.{Command}
use Rattle.nfg_script.specs.declared.command.Command.TheVariants.{Load, Text, Cat, Sub, Rep}
use Rattle.nfg_script.specs.Script.{NumberedCommand}
use Rattle.nfg_work.specs.declared.output.FileRead.{FileRead}
use Rattle.nfg_work.specs.declared.output.FileRead.TheVariants.{Bytes, TooLong, Failed}
use Rattle.nfg_work.specs.Values.{Value, no_value, flat, part, joined, repeated}
use Rattle.nfg_work.specs.Evaluation.{join_limit, first_state}
use Rattle.nfg_work.specs.Laws.{state_after}

-- a value in which no cluster is too long, or nothing
abbrev pub if_short : Value → Option Value
if_short value = elim (first_long value.clusters) [
  | None ↦ Some value
  | Some at ↦ None
]

-- the value of a text, or nothing where bytes decode to none
abbrev pub decoded_value : Decoded → Option Value
decoded_value (Ok text) = if_short (flat (graphemes_of text))
decoded_value (Err at) = None

-- the value of a file, or nothing where there is none
abbrev pub read_value : Encoding → FileRead → Option Value
read_value e (Bytes bytes) = decoded_value (decode e bytes)
read_value e TooLong = None
read_value e Failed = None

-- the value of the next file
abbrev pub load_value : Encoding → List FileRead → Option Value
load_value e [] = None
load_value e (read ∷ reads) = read_value e read

-- two values, joined, where both are there and are not too long
abbrev pub cat_value : Option Value → Option Value → Option Value
cat_value None b = None
cat_value (Some a) None = None
cat_value (Some a) (Some b) =
    if nat_lt join_limit (length a.clusters + length b.clusters) then None else if_short (joined a b)

-- a value so often, where it is there and is not too long
abbrev pub rep_value : Option Value → (count : ℕ) → Option Value
rep_value None count = None
rep_value (Some a) count = if nat_lt join_limit (length a.clusters * count) then None else if_short (repeated a count)

-- a part of a value, where it is there and the start is within it; no cluster of a part is too long
abbrev pub sub_value : Option Value → (start count : ℕ) → Option Value
sub_value None start count = None
sub_value (Some a) start count = if nat_lt (length a.clusters) start then None else Some (part a start count)

-- the value of a name, which has none where its command gave none
abbrev pub value_of : List (Option Value) → ℕ → Option Value
value_of values name = slice_index_or values name (Some no_value)

-- what the names have, and what was read for the loads to come
pub record Reached : Type 0 where
  pub values : List (Option Value)
  pub reads : List FileRead

-- the next name has this value, or nothing
abbrev pub with_value : Reached → Option Value → Reached
with_value reached value = record reached { values = reached.values ++ value ∷ [] }

-- the files behind a command: a load takes the next
abbrev pub files_behind : Command → List FileRead → List FileRead
files_behind (Load name e) [] = []
files_behind (Load name e) (read ∷ reads) = reads
files_behind _ reads = reads

-- one command: a defining one gives the next name its value or nothing, and any other gives none
abbrev pub reach_step : Reached → NumberedCommand → Command → Reached
reach_step reached numbered (Load name e) = record {
  values = reached.values ++ load_value e reached.reads ∷ [];
  reads = files_behind (Load name e) reached.reads;
}
reach_step reached numbered (Text name) = with_value reached (if_short (flat (graphemes_of numbered.codes)))
reach_step reached numbered (Cat name a b) =
    with_value reached (cat_value (value_of reached.values a) (value_of reached.values b))
reach_step reached numbered (Sub name a start count) = with_value reached (sub_value (value_of reached.values a) start count)
reach_step reached numbered (Rep name a count) = with_value reached (rep_value (value_of reached.values a) count)
reach_step reached numbered _ = reached

-- the commands that are left
abbrev pub reached_from : Reached → List NumberedCommand → Reached
reached_from reached [] = reached
reached_from reached (numbered ∷ script) = reached_from (reach_step reached numbered numbered.command) script

-- what the names of a script have, from what was read for its loads: in the order of definitions a value or nothing
unfoldable pub values_of : List NumberedCommand → List FileRead → List (Option Value)
values_of script reads = (reached_from (record { values = []; reads = reads }) script).values

-- a part of a file in the first encoding may be read in the second: the same, or UTF-16 without a mark
abbrev pub MayBeRead : (whole part : Encoding) → Type 0
MayBeRead Utf16 Utf16 = Unit {0}
MayBeRead Utf16 Utf16Le = Unit {0}
MayBeRead Utf16 Utf16Be = Unit {0}
MayBeRead whole part = whole ≡ part

-- the text is a cluster of some consecutive bytes of a file
pub record IsPartCluster (e : Encoding) (bytes t : List ℕ) : Type 0 where
  pub front : List ℕ
  pub middle : List ℕ
  pub back : List ℕ
  pub encoding : Encoding
  pub text : List ℕ
  pub parts : bytes ≡ front ++ middle ++ back
  pub may : MayBeRead e encoding
  pub decoded : decode encoding middle ≡ Ok text
  pub cluster : is_member bytes_eq (graphemes_of text) t ≡ true

-- the text is a cluster of a part of the next file, where it was read
abbrev pub IsOfNext : Encoding → List FileRead → (t : List ℕ) → Type 0
IsOfNext e [] t = ⊥
IsOfNext e (Bytes bytes ∷ reads) t = IsPartCluster e bytes t
IsOfNext e (TooLong ∷ reads) t = ⊥
IsOfNext e (Failed ∷ reads) t = ⊥

-- the text is a cluster of a part of the file that the command loads
abbrev pub IsOfCommand : Command → List FileRead → (t : List ℕ) → Type 0
IsOfCommand (Load name e) reads t = IsOfNext e reads t
IsOfCommand _ reads t = ⊥

-- the text is a cluster of a part of a file that one of the commands loads
abbrev pub IsOfFile : List NumberedCommand → List FileRead → (t : List ℕ) → Type 0
IsOfFile [] reads t = ⊥
IsOfFile (numbered ∷ script) reads t =
    IsOfCommand numbered.command reads t ⊎ IsOfFile script (files_behind numbered.command reads) t

-- the text is a cluster of one of the values
abbrev pub IsOfValue : List (Option Value) → (t : List ℕ) → Type 0
IsOfValue [] t = ⊥
IsOfValue (None ∷ values) t = IsOfValue values t
IsOfValue (Some value ∷ values) t = (is_member bytes_eq value.clusters t ≡ true) ⊎ IsOfValue values t

-- the text has two or more code points, and is a cluster of a value or of a part of a file
pub record IsReachable (script : List NumberedCommand) (reads : List FileRead) (t : List ℕ) : Type 0 where
  pub several : 2 ≤ length t
  pub source : IsOfValue (values_of script reads) t ⊎ IsOfFile script reads t

-- after every line of every script that is not refused, the names have the values of the evaluation
abbrev pub ValuesAreReached : Type 0
ValuesAreReached =
    (places : ℕ) (reads : List FileRead) (lines : List NumberedCommand)
    → IfOk (state_after places (first_state reads) lines)
    (λ state. values_of lines reads ≡ map (λ value. Some value) state.values)
