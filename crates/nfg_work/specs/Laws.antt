-- The laws of the evaluation: at every point of a script, each value is a list of graphemes (this project's own).
use Rattle.std.specs.Prelude.{◌≡◌, ◌≢◌, ◌≤◌, ℕ, Bool, true, false, List, [], ◌∷◌, ◌++◌, IfSome, Result, Ok, Err, IfOk}
use Rattle.nfg_text.specs.Graphemes.{IsInNfg}
use Rattle.nfg_text.specs.Operations.{part_of}
use Rattle.nfg_script.specs.Script.{NumberedCommand, load_paths}
use Rattle.nfg_work.specs.declared.output.Cause.{Cause}
use Rattle.nfg_work.specs.declared.output.Cause.TheVariants.{CannotRead, TableFull}
use Rattle.nfg_work.specs.declared.output.FileRead.{FileRead}
use Rattle.nfg_work.specs.declared.output.FileRead.TheVariants.{Bytes, TooLong, Failed}
use Rattle.nfg_work.specs.declared.output.Output.{Output}
use Rattle.nfg_work.specs.Evaluation.{State, value_of, step, first_state, evaluate_from, evaluate}

-- the state after some lines, or the cause for which the first of them that is refused is
abbrev pub state_after : (places : ℕ) → State → List NumberedCommand → Result State Cause
state_after places state [] = Ok state
state_after places state (numbered ∷ lines) = elim (step places state numbered numbered.command) [
  | Ok next ↦ state_after places next lines
  | Err cause ↦ Err cause
]

-- a script is evaluated from the state after its first lines on
abbrev pub EvaluationGoesOn : Type 0
EvaluationGoesOn =
    (places : ℕ) (reads : List FileRead) (lines more : List NumberedCommand)
    → IfOk (state_after places (first_state reads) lines)
    (λ state. evaluate (lines ++ more) reads places ≡ evaluate_from places state more)

-- the value of every name is a list of graphemes
abbrev pub AllInNfg : State → Type 0
AllInNfg state = (name : ℕ) → IsInNfg (value_of state name).clusters

-- so it is after every line of every script, whatever is read
abbrev pub ValuesAreInNfg : Type 0
ValuesAreInNfg =
    (places : ℕ) (reads : List FileRead) (lines : List NumberedCommand)
    → IfOk (state_after places (first_state reads) lines) AllInNfg

-- a part of a list of graphemes is a list of graphemes
abbrev pub PartIsInNfg : Type 0
PartIsInNfg = (list : List (List ℕ)) (start count : ℕ) → IsInNfg list → IsInNfg (part_of list start count)

-- one entry of what was read has failed
abbrev pub has_failed : List FileRead → Bool
has_failed [] = false
has_failed (Failed ∷ reads) = true
has_failed (TooLong ∷ reads) = has_failed reads
has_failed (Bytes bytes ∷ reads) = has_failed reads

-- there is an entry for each of these paths, in order, up to the first that failed or is too long
abbrev pub HasEntries : List (List ℕ) → List FileRead → Type 0
HasEntries [] reads = Unit {0}
HasEntries (path ∷ paths) [] = ⊥
HasEntries (path ∷ paths) (Failed ∷ reads) = Unit {0}
HasEntries (path ∷ paths) (TooLong ∷ reads) = Unit {0}
HasEntries (path ∷ paths) (Bytes bytes ∷ reads) = HasEntries paths reads

-- where the loads of a script have their entries, a line is refused as one that can't be read only where an entry has failed
abbrev pub FailedReadIsCause : Type 0
FailedReadIsCause =
    (places : ℕ) (reads : List FileRead) (script : List NumberedCommand) → HasEntries (load_paths script) reads
    → IfSome (evaluate script reads places).refused
    (λ refused. refused.cause ≡ CannotRead → has_failed reads ≡ true)

-- no line was refused for a full table
abbrev pub HasEnoughPlaces : Output → Type 0
HasEnoughPlaces output = IfSome output.refused (λ refused. refused.cause ≢ TableFull)

-- what a script gives over a table that has room for it, it gives over every larger one
abbrev pub MorePlacesChangeNothing : Type 0
MorePlacesChangeNothing =
    (places more : ℕ) (reads : List FileRead) (script : List NumberedCommand) → places ≤ more
    → HasEnoughPlaces (evaluate script reads places) → evaluate script reads more ≡ evaluate script reads places
