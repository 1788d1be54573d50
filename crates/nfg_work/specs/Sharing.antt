-- What a script gives over a table that others share (this project's own).
use Rattle.std.specs.Prelude.{◌≡◌, ℕ, ◌+◌, List, Result, Ok, Err}
use Rattle.nfg_syn.specs.declared.synthetics.InternError.{InternError}
use Rattle.nfg_syn.specs.declared.synthetics.InternError.TheVariants.{RowFull as TableFull, NoPortion as TableDrained, OutOfMemory as NoMemory}
use Rattle.nfg_syn.specs.Seen.{Seen}
use Rattle.nfg_script.specs.Script.{NumberedCommand}
use Rattle.nfg_work.specs.declared.output.FileRead.{FileRead}
use Rattle.nfg_work.specs.declared.output.Output.{Output}
use Rattle.nfg_work.specs.declared.shared_error.SharedError.{SharedError}
use Rattle.nfg_work.specs.declared.shared_error.SharedError.TheVariants.{RowFull, NoPortion, OutOfMemory}
use Rattle.nfg_work.specs.Outcomes.{GrowsBy}
use Rattle.nfg_work.specs.Answers.{IsAnswer, IsRefusedText}
use Rattle.nfg_work.specs.Workers.{CountAlike}

-- what a caller is told, where this text was refused
abbrev pub told : Result Output InternError → (refused : List ℕ) → Result Output SharedError
told (Ok output) refused = Ok output
told (Err TableFull) refused = Err (RowFull refused)
told (Err TableDrained) refused = Err NoPortion
told (Err NoMemory) refused = Err OutOfMemory

-- What comes of answering a script over a table that others share: the output, or a text that the table refuses, or
-- that it has no room left for code points. Want of memory may come in place of anything.
abbrev pub IsSharedAnswer : (places : ℕ) → List NumberedCommand → List FileRead → (old new : Seen)
    → Result Output SharedError → Type 0
IsSharedAnswer places script reads old new (Ok output) =
    GrowsBy script reads old.known new.known × IsAnswer places script reads new.known output
IsSharedAnswer places script reads old new (Err (RowFull text)) =
    GrowsBy script reads old.known new.known × IsRefusedText script reads new text
IsSharedAnswer places script reads old new (Err NoPortion) = GrowsBy script reads old.known new.known × new.drained
IsSharedAnswer places script reads old new (Err OutOfMemory) = Unit {0}

-- one pass was forked from the pass, and one was met in it
pub record HasMetOne (old new : Seen) : Type 0 where
  pub forks : new.forks ≡ old.forks + 1
  pub meets : new.meets ≡ old.meets + 1

-- so it was, unless memory was wanting
abbrev pub MeetsOne : (old new : Seen) → Result Output SharedError → Type 0
MeetsOne old new (Err OutOfMemory) = Unit {0}
MeetsOne old new _ = HasMetOne old new

-- passes were forked and met alike, at most so many, unless memory was wanting
abbrev pub CountAlikeUnless : (most : ℕ) → (old new : Seen) → Result Output SharedError → Type 0
CountAlikeUnless most old new (Err OutOfMemory) = Unit {0}
CountAlikeUnless most old new _ = CountAlike most old new
