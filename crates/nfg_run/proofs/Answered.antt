-- The answer to a script that was read.
use Rattle.std.proofs.Common.{◌≡◌, ℕ, ◌≤◌, List, [], Option, Some, None, IfSome, Result, Ok, Err, IfOk, refl, arith, ◌++◌, ◌∙◌, sym, append_assoc}
use Rattle.nfg_io.specs.Causes.{Rose}
use Rattle.nfg_io.specs.Files.{FilesState, HasFailedAt}
use Rattle.nfg_script.specs.declared.error.ScriptError.{ScriptError}
use Rattle.nfg_script.specs.Script.{NumberedCommand, load_paths}
use Rattle.nfg_script.specs.Grammar.{parse, byte_limit}
use Rattle.nfg_work.specs.declared.output.FileRead.{FileRead}
use Rattle.nfg_run.specs.declared.answer.Answer.{Answer}
use Rattle.nfg_run.specs.CommandLine.{CommandLine, Run, command_line, path_of}
use Rattle.nfg_run.specs.Answer.{answer_script, answer_bytes, answer_line}
use Rattle.nfg_run.specs.Headline.{IsAnswered, IsScriptRead, AreLoadsRead, failed_load, IsOpen, IsLastOpen}

-- words that name no script: nothing is read
pub IsAnswered-unread : (words : List (List ℕ)) (line : Option CommandLine) (before : FilesState) (given : Answer)
    → command_line words ≡ line → path_of line ≡ None → given ≡ answer_line line None [] → IsAnswered words before before given
IsAnswered-unread words line before given said none is = record {
  script = None;
  reads = [];
  are_read = rw (said, none) refl;
  read_fault_cause = rw (said, none) tt;
  last_open = rw (said, none) tt;
  answer_is = rw said is;
}

-- a script that can't be read
pub IsAnswered-failed : (words : List (List ℕ)) (workers places : ℕ) (path : List ℕ) (before after : FilesState) (given : Answer)
    → command_line words ≡ Some (Run workers places path) → HasFailedAt before after path
    → given ≡ answer_bytes places None [] → IsAnswered words before after given
IsAnswered-failed words workers places path before after given said failed is = record {
  script = None;
  reads = [];
  are_read = rw said (tt, refl);
  read_fault_cause = rw said failed;
  last_open = rw said (record { open_path = failed.open_path; position = λ whole. absurd (let broken = failed.broken in cc) });
  answer_is = rw said is;
}

-- a script that is refused
pub IsAnswered-refused : (words : List (List ℕ)) (workers places : ℕ) (path bytes : List ℕ) (before after : FilesState) (given : Answer)
    (refusal : ScriptError) → command_line words ≡ Some (Run workers places path) → IsScriptRead before.contents path (Some bytes)
    → parse bytes ≡ Err refusal → IsOpen after path byte_limit → given ≡ answer_script 0 (Err refusal) [] → IsAnswered words before after given
IsAnswered-refused words workers places path bytes before after given refusal said read refused is_open is = record {
  script = Some bytes;
  reads = [];
  are_read = rw (said, refused) (read, refl);
  read_fault_cause = rw (said, refused) tt;
  last_open = rw (said, refused) is_open;
  answer_is = rw (said, refused) is;
}

-- a script that is accepted
pub IsAnswered-accepted : (words : List (List ℕ)) (workers places : ℕ) (path bytes : List ℕ) (before after : FilesState) (given : Answer)
    (script : List NumberedCommand) (reads : List FileRead)
    → command_line words ≡ Some (Run workers places path) → IsScriptRead before.contents path (Some bytes) → parse bytes ≡ Ok script
    → AreLoadsRead before.contents 0 (load_paths script) reads
    → IfSome (failed_load (load_paths script) reads) (HasFailedAt before after)
    → IsLastOpen after path byte_limit 0 (load_paths script) reads
    → given ≡ answer_script places (Ok script) reads → IsAnswered words before after given
IsAnswered-accepted words workers places path bytes before after given script reads said read accepted loads cause last_open is = record {
  script = Some bytes;
  reads = reads;
  are_read = rw (said, accepted) (read, loads);
  read_fault_cause = rw (said, accepted) cause;
  last_open = rw (said, accepted) last_open;
  answer_is = rw (said, accepted) is;
}

Rose-earlier : (a b c : ℕ) → a ≤ b → Rose b c → Rose a c
Rose-earlier a b c le rose = omega (arith, le, rose)

-- what has failed since later has failed since earlier
pub HasFailedAt-earlier : (before between after : FilesState) (path : Option (List ℕ)) → before.faults ≤ between.faults
    → IfSome path (HasFailedAt between after) → IfSome path (HasFailedAt before after)
HasFailedAt-earlier before between after None le failed = tt
HasFailedAt-earlier before between after (Some path) le failed = record {
  rose = Rose-earlier before.faults between.faults after.faults le failed.rose;
  open_path = failed.open_path;
  broken = failed.broken;
}

-- what holds of a result, by what follows from it
pub IfOk-map : {T E : Type 0} (P Q : T → Type 0) (r : Result T E) → ((x : T) → P x → Q x) → IfOk r P → IfOk r Q
IfOk-map P Q (Ok x) f h = f x h
IfOk-map P Q (Err e) f h = tt

-- two facts of a result, by what follows from both
pub IfOk-both : {T E : Type 0} (P Q R : T → Type 0) (r : Result T E) → ((x : T) → P x → Q x → R x)
    → IfOk r P → IfOk r Q → IfOk r R
IfOk-both P Q R (Ok x) f p q = f x p q
IfOk-both P Q R (Err e) f p q = tt

-- five lists in a row, joined from the right or from the left
pub append-five : (a b c d e : List ℕ) → a ++ (b ++ (c ++ (d ++ e))) ≡ (((a ++ b) ++ c) ++ d) ++ e
append-five a b c d e =
    sym (append_assoc ((a ++ b) ++ c) d e ∙ append_assoc (a ++ b) c (d ++ e) ∙ append_assoc a b (c ++ (d ++ e)))

-- nothing, where there is nothing
pub IfSome-none : {T : Type 0} (x : Option T) (P : T → Type 0) → x ≡ None → IfSome x P
IfSome-none x P e = rw e tt

-- what holds of what there is
pub IfSome-some : {T : Type 0} (x : Option T) (P : T → Type 0) (y : T) → x ≡ Some y → P y → IfSome x P
IfSome-some x P y e holds = rw e holds
