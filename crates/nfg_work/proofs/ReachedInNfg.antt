-- Each value that a name reaches is a list of graphemes.
use Rattle.std.proofs.Common.{◌≡◌, ℕ, zero, suc, ◌+◌, ◌*◌, Bool, true, false, nat_lt, List, [], ◌∷◌, ◌++◌, length, take, Option, Some, None, Ok, Err, if◌then◌else◌, refl, subst}
use Rattle.std.specs.List.{repeat}
use Rattle.nfg_text.specs.Graphemes.{graphemes_of, IsInNfg}
use Rattle.nfg_text.specs.Text.{text_of}
use Rattle.nfg_text.proofs.Proved.{graphemes_are_in_nfg, parts_are_in_nfg}
use Rattle.nfg_decode.specs.declared.encoding.Encoding.{Encoding}
use Rattle.nfg_decode.specs.Decoded.{Decoded}
use Rattle.nfg_decode.specs.Encoding.{decode}
use Rattle.nfg_syn.specs.Learned.{first_long}
use Rattle.nfg_script.specs.declared.command.Command.{Command}
use Rattle.nfg_script.specs.declared.command.Command.TheVariants.{Load, Text, Cat, Sub, Rep}
use Rattle.nfg_script.specs.Script.{NumberedCommand}
use Rattle.nfg_work.specs.declared.output.FileRead.{FileRead}
use Rattle.nfg_work.specs.declared.output.FileRead.TheVariants.{Bytes, TooLong, Failed}
use Rattle.nfg_work.specs.Values.{Value, no_value, flat, part, joined, repeated}
use Rattle.nfg_work.specs.Evaluation.{join_limit}
use Rattle.nfg_work.specs.Reach.{Reached, if_short, decoded_value, load_value, cat_value, sub_value, rep_value, value_of, reach_step, reached_from}
use Rattle.nfg_work.specs.Outcomes.{first_reached, reached_at}
use Rattle.nfg_work.proofs.InNfg.{part_is_in_nfg}

-- a value, where there is one, is a list of graphemes
abbrev IsSomeInNfg : Option Value → Type 0
IsSomeInNfg found = (value : Value) → found ≡ Some value → IsInNfg value.clusters

-- so it is of each name
abbrev AreInNfg : List (Option Value) → Type 0
AreInNfg values = (name : ℕ) → IsSomeInNfg (value_of values name)

none_in_nfg : IsSomeInNfg None
none_in_nfg value e = cc

some_in_nfg : (value : Value) → IsInNfg value.clusters → IsSomeInNfg (Some value)
some_in_nfg value is other e = let same : value ≡ other = cc in subst (λ v. IsInNfg v.clusters) same is

nothing_is_in_nfg : IsInNfg []
nothing_is_in_nfg = (parts_are_in_nfg [] (graphemes_of []) (graphemes_are_in_nfg [])).0

no_value_in_nfg : IsSomeInNfg (Some no_value)
no_value_in_nfg = some_in_nfg no_value nothing_is_in_nfg

-- the value, where no cluster is too long
abbrev of_first : Option ℕ → Value → Option Value
of_first first value = elim first [
  | None ↦ Some value
  | Some at ↦ None
]

first_in_nfg : (first : Option ℕ) (value : Value) → IsInNfg value.clusters → IsSomeInNfg (of_first first value)
first_in_nfg None value is = some_in_nfg value is
first_in_nfg (Some at) value is = none_in_nfg

short_in_nfg : (value : Value) → IsInNfg value.clusters → IsSomeInNfg (if_short value)
short_in_nfg value is = first_in_nfg (first_long value.clusters) value is

unless_in_nfg : (refused : Bool) (found : Option Value) → IsSomeInNfg found → IsSomeInNfg (if refused then None else found)
unless_in_nfg true found is = none_in_nfg
unless_in_nfg false found is = is

decoded_in_nfg : (decoded : Decoded) → IsSomeInNfg (decoded_value decoded)
decoded_in_nfg (Ok text) = short_in_nfg (flat (graphemes_of text)) (graphemes_are_in_nfg text)
decoded_in_nfg (Err at) = none_in_nfg

load_in_nfg : (e : Encoding) (reads : List FileRead) → IsSomeInNfg (load_value e reads)
load_in_nfg e [] = none_in_nfg
load_in_nfg e (Bytes bytes ∷ reads) = decoded_in_nfg (decode e bytes)
load_in_nfg e (TooLong ∷ reads) = none_in_nfg
load_in_nfg e (Failed ∷ reads) = none_in_nfg

cat_in_nfg : (a b : Option Value) → IsSomeInNfg (cat_value a b)
cat_in_nfg None b = none_in_nfg
cat_in_nfg (Some a) None = none_in_nfg
cat_in_nfg (Some a) (Some b) =
    unless_in_nfg (nat_lt join_limit (length a.clusters + length b.clusters)) (if_short (joined a b))
    (short_in_nfg (joined a b) (graphemes_are_in_nfg (text_of a.clusters ++ text_of b.clusters)))

rep_in_nfg : (a : Option Value) (count : ℕ) → IsSomeInNfg (rep_value a count)
rep_in_nfg None count = none_in_nfg
rep_in_nfg (Some a) count =
    unless_in_nfg (nat_lt join_limit (length a.clusters * count)) (if_short (repeated a count))
    (short_in_nfg (repeated a count) (graphemes_are_in_nfg (repeat count (text_of a.clusters))))

sub_in_nfg : (a : Option Value) (start count : ℕ) → IsSomeInNfg a → IsSomeInNfg (sub_value a start count)
sub_in_nfg None start count is = none_in_nfg
sub_in_nfg (Some a) start count is =
    unless_in_nfg (nat_lt (length a.clusters) start) (Some (part a start count))
    (some_in_nfg (part a start count) (part_is_in_nfg a.clusters start count (is a refl)))

-- one name more
in_nfg-push : (values : List (Option Value)) (found : Option Value) → AreInNfg values → IsSomeInNfg found → AreInNfg (values ++ found ∷ [])
in_nfg-push [] found all is zero = is
in_nfg-push [] found all is (suc name) = no_value_in_nfg
in_nfg-push (v ∷ values) found all is zero = all 0
in_nfg-push (v ∷ values) found all is (suc name) = in_nfg-push values found (λ n. all (suc n)) is name

step_in_nfg : (reached : Reached) (numbered : NumberedCommand) (command : Command) → AreInNfg reached.values → AreInNfg (reach_step reached numbered command).values
step_in_nfg reached numbered (Load name e) all = in_nfg-push reached.values (load_value e reached.reads) all (load_in_nfg e reached.reads)
step_in_nfg reached numbered (Text name) all =
    in_nfg-push reached.values (if_short (flat (graphemes_of numbered.codes))) all
    (short_in_nfg (flat (graphemes_of numbered.codes)) (graphemes_are_in_nfg numbered.codes))
step_in_nfg reached numbered (Cat name a b) all =
    in_nfg-push reached.values (cat_value (value_of reached.values a) (value_of reached.values b)) all
    (cat_in_nfg (value_of reached.values a) (value_of reached.values b))
step_in_nfg reached numbered (Sub name a start count) all =
    in_nfg-push reached.values (sub_value (value_of reached.values a) start count) all (sub_in_nfg (value_of reached.values a) start count (all a))
step_in_nfg reached numbered (Rep name a count) all =
    in_nfg-push reached.values (rep_value (value_of reached.values a) count) all (rep_in_nfg (value_of reached.values a) count)
step_in_nfg reached numbered command all = all

lines_in_nfg : (reached : Reached) (lines : List NumberedCommand) → AreInNfg reached.values → AreInNfg (reached_from reached lines).values
lines_in_nfg reached [] all = all
lines_in_nfg reached (numbered ∷ lines) all =
    lines_in_nfg (reach_step reached numbered numbered.command) lines (step_in_nfg reached numbered numbered.command all)

-- each value before a command is a list of graphemes
pub reached_in_nfg : (script : List NumberedCommand) (reads : List FileRead) (k name : ℕ) (value : Value)
    → value_of (reached_at script reads k).values name ≡ Some value → IsInNfg value.clusters
reached_in_nfg script reads k = lines_in_nfg (first_reached reads) (take k script) (λ name. no_value_in_nfg)
