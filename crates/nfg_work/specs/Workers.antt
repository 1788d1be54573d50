-- What the workers of a level have given, and what their passes know (this project's own).
use Rattle.std.specs.Prelude.{◌≡◌, ℕ, ◌+◌, ◌≤◌, Bool, false, List, [], All}
use Rattle.nfg_syn.specs.Known.{Texts, IsSame}
use Rattle.nfg_syn.specs.Seen.{Seen, Keeps, SameCounts}
use Rattle.nfg_script.specs.Script.{NumberedCommand}
use Rattle.nfg_work.specs.declared.output.FileRead.{FileRead}
use Rattle.nfg_work.specs.declared.worker.Given.{Given}
use Rattle.nfg_work.specs.declared.outcome.Outcome.{Outcome}
use Rattle.nfg_work.specs.Outcomes.{IsRightAt, AreRight, GrowsBy}

-- each outcome that was given is right
abbrev pub AreGivenRight : Texts → List NumberedCommand → List FileRead → List Given → Type 0
AreGivenRight known script reads given = All (λ one. IsRightAt known script reads one.command one.outcome) given

-- a worker is about to begin, with a fork of a pass that knows these texts
pub record IsReady (base : Texts) (fork : Seen) (given : List Given) : Type 0 where
  pub known : IsSame base fork.known
  pub root : fork.root ≡ false
  pub meets : fork.meets ≡ 0
  pub nothing : given ≡ []

-- a pass that knew the first texts knows the second, and all that was given is right
pub record HasGiven (script : List NumberedCommand) (reads : List FileRead) (old new : Texts) (given : List Given) : Type 0 where
  pub grown : GrowsBy script reads old new
  pub right : AreGivenRight new script reads given

-- a worker has done its share: what it has given is right, unless memory was wanting
pub record HasWorked
    (script : List NumberedCommand) (reads : List FileRead) (old new : Seen) (given : List Given) (short : Bool) : Type 0 where
  pub keeps : Keeps old new
  pub counts : SameCounts old new
  pub gives : short ≡ false → HasGiven script reads old.known new.known given

-- a fork that can be met in a pass that knows these texts, and what its worker has given
pub record IsDone
    (script : List NumberedCommand) (reads : List FileRead) (base : Texts) (fork : Seen) (given : List Given) (short : Bool) : Type 0 where
  pub root : fork.root ≡ false
  pub meets : fork.meets ≡ 0
  pub gives : short ≡ false → HasGiven script reads base fork.known given

-- a pass has met a fork, and what was given to it is among the outcomes
pub record HasMet
    (script : List NumberedCommand) (reads : List FileRead) (old new : Texts) (outcomes : List Outcome) : Type 0 where
  pub grown : GrowsBy script reads old new
  pub right : AreRight new script reads outcomes

-- as many passes were forked from a pass as meets went into it, and at most so many
pub record CountAlike (most : ℕ) (old new : Seen) : Type 0 where
  pub by : ℕ
  pub forks : new.forks ≡ old.forks + by
  pub meets : new.meets ≡ old.meets + by
  pub within : by ≤ most
