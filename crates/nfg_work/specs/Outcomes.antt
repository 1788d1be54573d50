-- What jobs give ahead of the answers, and when it is right (this project's own).
use Rattle.std.specs.Prelude.{◌≡◌, ℕ, List, [], length, take, slice_get, Option, Some, None}
use Rattle.nfg_text.specs.Graphemes.{graphemes_of}
use Rattle.nfg_text.specs.Operations.{first_place, last_place, text_order}
use Rattle.nfg_syn.specs.Known.{Texts}
use Rattle.nfg_script.specs.declared.command.Command.{Command}
use Rattle.nfg_script.specs.declared.command.Command.TheVariants.{Load, Text, Cat, Sub, Rep, Find, Rfind, Eq, Cmp}
use Rattle.nfg_script.specs.Script.{NumberedCommand}
use Rattle.nfg_work.specs.declared.outcome.Outcome.{Outcome}
use Rattle.nfg_work.specs.declared.outcome.Outcome.TheVariants.{Nothing, Made, Found, Compared, Ordered}
use Rattle.nfg_work.specs.declared.output.FileRead.{FileRead}
use Rattle.nfg_work.specs.Values.{Value, flat}
use Rattle.nfg_work.specs.Evaluation.{are_equivalent}
use Rattle.nfg_work.specs.Growth.{GrowsOnlyBy}
use Rattle.nfg_work.specs.Holding.{IsStringOf}
use Rattle.nfg_work.specs.Reach.{Reached, reached_from, value_of, if_short, load_value, cat_value, sub_value, rep_value, IsReachable}

-- no name is defined yet
abbrev pub first_reached : List FileRead → Reached
first_reached reads = record { values = []; reads = reads }

-- what the names before command k have, and what was read for the loads from there on
abbrev pub reached_at : List NumberedCommand → List FileRead → ℕ → Reached
reached_at script reads k = reached_from (first_reached reads) (take k script)

-- the value that a command gives to the next name, or nothing
abbrev pub given_value : Reached → NumberedCommand → Command → Option Value
given_value reached numbered (Load name e) = load_value e reached.reads
given_value reached numbered (Text name) = if_short (flat (graphemes_of numbered.codes))
given_value reached numbered (Cat name a b) = cat_value (value_of reached.values a) (value_of reached.values b)
given_value reached numbered (Sub name a start count) = sub_value (value_of reached.values a) start count
given_value reached numbered (Rep name a count) = rep_value (value_of reached.values a) count
given_value reached numbered _ = None

-- two names have values, of which this is true
abbrev pub HaveValues : Reached → (a b : ℕ) → (Value → Value → Type 0) → Type 0
HaveValues reached a b P =
    (x y : Value) × (value_of reached.values a ≡ Some x) × (value_of reached.values b ≡ Some y) × P x y

-- what the job of a command has given is right, where the names before it have these values
abbrev pub IsOutcomeOf : Texts → Reached → NumberedCommand → Command → Outcome → Type 0
IsOutcomeOf known reached numbered command Nothing = Unit {0}
IsOutcomeOf known reached numbered command (Made string) =
    (value : Value) × (given_value reached numbered command ≡ Some value) × IsStringOf known string value
IsOutcomeOf known reached numbered (Find a b at) (Found place) =
    HaveValues reached a b (λ x y. place ≡ first_place x.clusters y.clusters at)
IsOutcomeOf known reached numbered (Rfind a b at) (Found place) =
    HaveValues reached a b (λ x y. place ≡ last_place x.clusters y.clusters at)
IsOutcomeOf known reached numbered (Eq a b) (Compared holds) =
    HaveValues reached a b (λ x y. holds ≡ are_equivalent x.clusters y.clusters)
IsOutcomeOf known reached numbered (Cmp a b) (Ordered ordering) =
    HaveValues reached a b (λ x y. ordering ≡ text_order x.clusters y.clusters)
IsOutcomeOf known reached numbered command outcome = ⊥

-- what the job of command k of a script has given is right
abbrev pub IsRightAt : Texts → List NumberedCommand → List FileRead → ℕ → Outcome → Type 0
IsRightAt known script reads k outcome =
    (numbered : NumberedCommand) → slice_get script k ≡ Some numbered
    → IsOutcomeOf known (reached_at script reads k) numbered numbered.command outcome

-- there is an outcome for each command, and each is right
pub record AreRight (known : Texts) (script : List NumberedCommand) (reads : List FileRead) (outcomes : List Outcome) : Type 0 where
  pub as_many : length outcomes ≡ length script
  pub right : (k : ℕ) (outcome : Outcome) → slice_get outcomes k ≡ Some outcome → IsRightAt known script reads k outcome

-- what is known besides are clusters that the script can bring into a table
abbrev pub GrowsBy : List NumberedCommand → List FileRead → (old new : Texts) → Type 0
GrowsBy script reads old new = GrowsOnlyBy (IsReachable script reads) old new
