-- What the commands of a script give in order over a table that others share (this project's own).
use Rattle.std.specs.Prelude.{◌≡◌, ◌≢◌, ℕ, List, [], ◌∷◌, take, drop, Some, IfSome, Result, Ok, Err}
use Rattle.nfg_syn.specs.declared.synthetics.InternError.{InternError}
use Rattle.nfg_syn.specs.declared.synthetics.InternError.TheVariants.{RowFull, NoPortion, OutOfMemory}
use Rattle.nfg_syn.specs.Known.{Texts, IsUnknown}
use Rattle.nfg_syn.specs.Seen.{Seen}
use Rattle.nfg_script.specs.Script.{NumberedCommand}
use Rattle.nfg_work.specs.declared.output.Cause.{Cause}
use Rattle.nfg_work.specs.declared.output.Cause.TheVariants.{TableFull}
use Rattle.nfg_work.specs.declared.output.FileRead.{FileRead}
use Rattle.nfg_work.specs.declared.output.Output.{Output}
use Rattle.nfg_work.specs.declared.stop.Stop.{Stop}
use Rattle.nfg_work.specs.declared.stop.Stop.TheVariants.{Refused, RowFull as StopFull, NoPortion as StopDrained, OutOfMemory as StopMemory}
use Rattle.nfg_work.specs.Evaluation.{State, step, first_state, evaluate}
use Rattle.nfg_work.specs.Holding.{AreNumbered}
use Rattle.nfg_work.specs.Laws.{state_after}
use Rattle.nfg_work.specs.Outcomes.{GrowsBy}
use Rattle.nfg_work.specs.Reach.{IsReachable}

-- the next line is refused, unless there is none
abbrev pub IsLast : (places : ℕ) → State → List NumberedCommand → Type 0
IsLast places state [] = Unit {0}
IsLast places state (numbered ∷ lines) = (cause : Cause) × (step places state numbered numbered.command ≡ Err cause)

-- when all lines are done, or those before the one that is refused, each cluster in use is known
pub record HasUsed (places : ℕ) (script : List NumberedCommand) (reads : List FileRead) (known : Texts) : Type 0 where
  pub done : ℕ
  pub state : State
  pub after : state_after places (first_state reads) (take done script) ≡ Ok state
  pub last : IsLast places state (drop done script)
  pub numbered : AreNumbered known state.used

-- the output is that of the script, in which no line is refused for want of places
pub record IsAnswer
    (places : ℕ) (script : List NumberedCommand) (reads : List FileRead) (known : Texts) (output : Output) : Type 0 where
  pub exact : output ≡ evaluate script reads places
  pub has_places : IfSome output.refused (λ refused. refused.cause ≢ TableFull)
  pub used : HasUsed places script reads known

-- the script can bring the text into the table, which refuses it for want of places
pub record IsRefusedText (script : List NumberedCommand) (reads : List FileRead) (pass : Seen) (text : List ℕ) : Type 0 where
  pub reachable : IsReachable script reads text
  pub unknown : IsUnknown pass.known text
  pub full : pass.full text

-- What comes of answering a script. Want of memory may come in place of anything.
abbrev pub IsAnswered : (places : ℕ) → List NumberedCommand → List FileRead → (old new : Seen)
    → Result Output InternError → Type 0
IsAnswered places script reads old new (Ok output) =
    GrowsBy script reads old.known new.known × IsAnswer places script reads new.known output
IsAnswered places script reads old new (Err RowFull) =
    GrowsBy script reads old.known new.known × (text : List ℕ) × IsRefusedText script reads new text
IsAnswered places script reads old new (Err NoPortion) = GrowsBy script reads old.known new.known × new.drained
IsAnswered places script reads old new (Err OutOfMemory) = Unit {0}

-- what a script gives that has given these bytes and stops at this line
abbrev pub IsStopAt : (bytes : List ℕ) → (line : ℕ) → Stop → Result Output InternError → Type 0
IsStopAt bytes line (Refused cause) result =
    result ≡ Ok (record { bytes = bytes; refused = Some (record { line = line; cause = cause }) })
IsStopAt bytes line StopFull result = result ≡ Err RowFull
IsStopAt bytes line StopDrained result = result ≡ Err NoPortion
IsStopAt bytes line StopMemory result = result ≡ Err OutOfMemory
