-- What the job of one command does (this project's own).
use Rattle.std.specs.Prelude.{◌≡◌, ℕ, List, ◌∷◌, slice_get, Some, Result, Ok, Err}
use Rattle.std.specs.declared.alloc.AllocError.{AllocError}
use Rattle.nfg_text.specs.Graphemes.{IsInNfg}
use Rattle.nfg_decode.specs.declared.encoding.Encoding.{Encoding}
use Rattle.nfg_syn.specs.Known.{Texts}
use Rattle.nfg_strand.specs.Value.{Rope}
use Rattle.nfg_script.specs.declared.command.Command.TheVariants.{Load}
use Rattle.nfg_script.specs.Script.{NumberedCommand}
use Rattle.nfg_work.specs.declared.outcome.Outcome.{Outcome}
use Rattle.nfg_work.specs.declared.outcome.Outcome.TheVariants.{Nothing, Made}
use Rattle.nfg_work.specs.declared.output.FileRead.{FileRead}
use Rattle.nfg_work.specs.declared.output.FileRead.TheVariants.{Bytes}
use Rattle.nfg_work.specs.declared.stop.Stop.{Stop}
use Rattle.nfg_work.specs.declared.stop.Stop.TheVariants.{Refused, RowFull, NoPortion, OutOfMemory}
use Rattle.nfg_work.specs.Values.{Value}
use Rattle.nfg_work.specs.Holding.{IsStringOf}
use Rattle.nfg_work.specs.Outcomes.{reached_at, IsRightAt, GrowsBy}
use Rattle.nfg_work.specs.Reach.{value_of}

-- the string of a name that has a value before command k
pub record IsStringAt
    (known : Texts) (script : List NumberedCommand) (reads : List FileRead) (k name : ℕ) (string : Rope) : Type 0 where
  pub value : Value
  pub has : value_of (reached_at script reads k).values name ≡ Some value
  pub is : IsStringOf known string value
  pub in_nfg : IsInNfg value.clusters

-- command k loads these bytes, in this encoding
pub record IsFileAt (script : List NumberedCommand) (reads : List FileRead) (k : ℕ) (e : Encoding) (bytes : List ℕ) : Type 0 where
  pub numbered : NumberedCommand
  pub here : slice_get script k ≡ Some numbered
  pub name : ℕ
  pub loads : numbered.command ≡ Load name e
  -- what was read for the loads from there on
  pub rest : List FileRead
  pub next : (reached_at script reads k).reads ≡ Bytes bytes ∷ rest

-- what a job gives that makes a string: nothing where it was stopped, unless memory was wanting
abbrev pub IsOutcomeFor : Result Rope Stop → Result Outcome AllocError → Type 0
IsOutcomeFor (Ok string) result = result ≡ Ok (Made string)
IsOutcomeFor (Err (Refused cause)) result = result ≡ Ok Nothing
IsOutcomeFor (Err RowFull) result = result ≡ Ok Nothing
IsOutcomeFor (Err NoPortion) result = result ≡ Ok Nothing
IsOutcomeFor (Err OutOfMemory) (Ok outcome) = ⊥
IsOutcomeFor (Err OutOfMemory) (Err error) = Unit {0}

-- the job of command k is done: what it gives is right, and what is known besides is reachable
abbrev pub IsJobDone : List NumberedCommand → List FileRead → (k : ℕ) → (old new : Texts)
    → Result Outcome AllocError → Type 0
IsJobDone script reads k old new (Ok outcome) = GrowsBy script reads old new × IsRightAt new script reads k outcome
IsJobDone script reads k old new (Err error) = Unit {0}
