-- The headline: what a run has read, and that its answer to that was written (this project's own).
use Rattle.std.specs.Prelude.{◌≡◌, ℕ, ◌+◌, ◌<◌, ◌≤◌, ◌-◌, min, Bool, true, false, ◌||◌, nat_lt, List, [], ◌∷◌, ◌++◌, length, take, Option, Some, None, IfSome, Result, Ok, Err}
use Rattle.nfg_io.specs.Causes.{Rose}
use Rattle.nfg_io.specs.Files.{FilesState, Contents, HasFailedAt}
use Rattle.nfg_io.specs.Sink.{SinkState, Grew}
use Rattle.nfg_script.specs.declared.error.ScriptError.{ScriptError}
use Rattle.nfg_script.specs.Script.{NumberedCommand, load_paths}
use Rattle.nfg_script.specs.Grammar.{parse, byte_limit}
use Rattle.nfg_work.specs.declared.output.FileRead.{FileRead}
use Rattle.nfg_work.specs.declared.output.FileRead.TheVariants.{Bytes, TooLong, Failed}
use Rattle.nfg_work.specs.declared.output.RefusedLine.{RefusedLine}
use Rattle.nfg_work.specs.Evaluation.{file_limit, evaluate}
use Rattle.nfg_work.specs.Laws.{has_failed}
use Rattle.nfg_run.specs.declared.answer.Answer.{Answer}
use Rattle.nfg_run.specs.declared.status.Status.{Status}
use Rattle.nfg_run.specs.declared.status.Status.TheVariants.{Done, Refused, Bad}
use Rattle.nfg_run.specs.CommandLine.{CommandLine, Run, Gen, command_line, script_path}
use Rattle.nfg_run.specs.Generator.{script_text}
use Rattle.nfg_run.specs.Answer.{answer, generated_reads}

-- the most bytes of all files of a script together
abbrev pub files_limit : ℕ
files_limit = 268435456

-- a file of so many bytes is over the limit of one, or with the files before it over that of all
abbrev pub is_over_limit : (earlier count : ℕ) → Bool
is_over_limit earlier count = nat_lt file_limit count || nat_lt files_limit (earlier + count)

-- the path is there and P holds of its bytes, where the files are told
abbrev pub HasFile : Option Contents → List ℕ → (List ℕ → Type 0) → Type 0
HasFile contents path P =
    IfSome contents (λ bytes_of. (file : List ℕ) × (bytes_of path ≡ Some file) × P file)

-- the script's bytes, cut where they show that it is too long
abbrev pub IsScriptRead : Option Contents → List ℕ → Option (List ℕ) → Type 0
IsScriptRead contents path None = Unit {0}
IsScriptRead contents path (Some bytes) = HasFile contents path (λ file. bytes ≡ take (byte_limit + 1) file)

-- One entry a load, in order, up to the first that failed or is too long. The files before them have
-- `earlier` bytes together.
abbrev pub AreLoadsRead : Option Contents → (earlier : ℕ) → List (List ℕ) → List FileRead → Type 0
AreLoadsRead contents earlier [] reads = reads ≡ []
AreLoadsRead contents earlier (path ∷ paths) [] = ⊥
AreLoadsRead contents earlier (path ∷ paths) (Failed ∷ reads) = reads ≡ []
AreLoadsRead contents earlier (path ∷ paths) (TooLong ∷ reads) =
    HasFile contents path (λ file. is_over_limit earlier (length file) ≡ true) × (reads ≡ [])
AreLoadsRead contents earlier (path ∷ paths) (Bytes bytes ∷ reads) =
    HasFile contents path (λ file. bytes ≡ file) × (is_over_limit earlier (length bytes) ≡ false)
    × AreLoadsRead contents (earlier + length bytes) paths reads

-- the paths that a script loads, and none where it is refused
abbrev pub accepted_paths : Result (List NumberedCommand) ScriptError → List (List ℕ)
accepted_paths (Err refusal) = []
accepted_paths (Ok script) = load_paths script

-- the paths that the script of these bytes loads, and none where it can't be read
abbrev pub paths_of : Option (List ℕ) → List (List ℕ)
paths_of None = []
paths_of (Some bytes) = accepted_paths (parse bytes)

-- where the words name a script, it and then its loads are read
abbrev pub AreRead : Option Contents → Option (List ℕ) → Option (List ℕ) → List FileRead → Type 0
AreRead contents None script reads = reads ≡ []
AreRead contents (Some path) script reads =
    IsScriptRead contents path script × AreLoadsRead contents 0 (paths_of script) reads

-- the path of the load that failed
abbrev pub failed_load : List (List ℕ) → List FileRead → Option (List ℕ)
failed_load [] reads = None
failed_load (path ∷ paths) [] = None
failed_load (path ∷ paths) (Failed ∷ reads) = Some path
failed_load (path ∷ paths) (TooLong ∷ reads) = failed_load paths reads
failed_load (path ∷ paths) (Bytes bytes ∷ reads) = failed_load paths reads

-- where the script has this path: its path where it can't be read, else that of the load that failed
abbrev pub failed_read : List ℕ → Option (List ℕ) → List FileRead → Option (List ℕ)
failed_read path None reads = Some path
failed_read path (Some bytes) reads = failed_load (paths_of (Some bytes)) reads

-- the path of the read that failed, where one did; words that aren't lawful read nothing
abbrev pub failed_path : Option (List ℕ) → Option (List ℕ) → List FileRead → Option (List ℕ)
failed_path None script reads = None
failed_path (Some path) script reads = failed_read path script reads

-- the most bytes that may be read for a load, after so many for the loads before it
abbrev pub most_after : (earlier : ℕ) → ℕ
most_after earlier = min file_limit (files_limit - earlier)

-- the path was opened last; unless a call on it has failed, at most one byte more than `most` was read of it
pub record IsOpen (after : FilesState) (path : List ℕ) (most : ℕ) : Type 0 where
  pub open_path : after.open_path ≡ Some path
  pub position : after.broken ≡ false → after.position ≤ most + 1

-- Nothing is opened behind the last load that was read, nor behind a path of at most `most` bytes where
-- none was. The files before have `earlier` bytes together.
abbrev pub IsLastOpen : FilesState → List ℕ → (most earlier : ℕ) → List (List ℕ) → List FileRead → Type 0
IsLastOpen after last most earlier [] reads = IsOpen after last most
IsLastOpen after last most earlier (path ∷ paths) [] = IsOpen after last most
IsLastOpen after last most earlier (path ∷ paths) (Failed ∷ reads) = IsOpen after path (most_after earlier)
IsLastOpen after last most earlier (path ∷ paths) (TooLong ∷ reads) = IsOpen after path (most_after earlier)
IsLastOpen after last most earlier (path ∷ paths) (Bytes bytes ∷ reads) =
    IsLastOpen after path (most_after earlier) (earlier + length bytes) paths reads

-- The answer is that to what was read, of which at most one failed, with its cause in the files.
pub record IsAnswered (words : List (List ℕ)) (before after : FilesState) (given : Answer) : Type 0 where
  -- the script's bytes, or none where they can't be read
  pub script : Option (List ℕ)
  -- what was read for its loads
  pub reads : List FileRead
  pub are_read : AreRead before.contents (script_path words) script reads
  pub read_fault_cause : IfSome (failed_path (script_path words) script reads) (HasFailedAt before after)
  -- no path is opened behind the last that was read, and at most one byte past its limit is
  pub last_open : IfSome (script_path words)
      (λ path. IsLastOpen after path byte_limit 0 (paths_of script) reads)
  pub answer_is : given ≡ answer words script reads

-- the status is the answer's, and the bytes taken have grown by just its bytes
pub record IsDelivered (given : Answer) (status : Status) (before after : SinkState) : Type 0 where
  pub same_status : status ≡ given.status
  pub written : Grew before.taken after.taken given.bytes

-- the bytes taken have grown by a proper prefix of these
pub record GrewInPart (before after : Option (List ℕ)) (bytes : List ℕ) : Type 0 where
  pub sent : List ℕ
  pub unsent : List ℕ
  pub whole : sent ++ unsent ≡ bytes
  pub proper : 0 < length unsent
  pub written : Grew before after sent

-- a write failed: the count rose, and a proper prefix of the answer's bytes was taken
pub record IsCutOff (given : Answer) (before after : SinkState) : Type 0 where
  pub rose : Rose before.faults after.faults
  pub part : GrewInPart before.taken after.taken given.bytes

-- the status behind the last line, or the line that is refused
abbrev pub faultless_output : Option RefusedLine → Status
faultless_output None = Done
faultless_output (Some refused) = Refused

-- the status of a script over so many places where no call fails, by its lines and what was read for its loads
abbrev pub faultless_script : (places : ℕ) → Result (List NumberedCommand) ScriptError → List FileRead → Status
faultless_script places (Err refusal) reads = Bad
faultless_script places (Ok script) reads = faultless_output (evaluate script reads places).refused

-- the status where no call fails, by what the words ask for, the script's lines and what was read for its loads
abbrev pub faultless_status : Option CommandLine → Result (List NumberedCommand) ScriptError → List FileRead → Status
faultless_status None script reads = Bad
faultless_status (Some (Run workers places path)) script reads = faultless_script places script reads
faultless_status (Some (Gen workers places seed count)) script reads =
    faultless_script places (parse script_text) (generated_reads seed count)

-- All that the words ask for was read, and the status is that of a run in which no call fails.
pub record IsFaultless (words : List (List ℕ)) (before : FilesState) (status : Status) : Type 0 where
  pub script : List ℕ
  pub reads : List FileRead
  pub are_read : AreRead before.contents (script_path words) (Some script) reads
  pub none_failed : has_failed reads ≡ false
  pub status_is : status ≡ faultless_status (command_line words) (parse script) reads
