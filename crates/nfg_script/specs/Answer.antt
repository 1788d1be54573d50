-- What the readers of a line answer (this project's own).
use Rattle.std.specs.Prelude.{◌≡◌, ◌≢◌, ℕ, List, map, None, Result, Ok, Err, option_map, IfSome, string_bytes}
use Rattle.std.specs.Borrow.{Bor}
use Rattle.nfg_script.specs.declared.error.Reason.{Reason}
use Rattle.nfg_script.specs.declared.error.ScriptError.{ScriptError}
use Rattle.nfg_script.specs.declared.error.ScriptError.TheVariants.{OutOfMemory as NoMemory}
use Rattle.nfg_script.specs.declared.line_read.LineError.{LineError}
use Rattle.nfg_script.specs.declared.line_read.LineError.TheVariants.{Refused, OutOfMemory}
use Rattle.nfg_script.specs.declared.line_read.LineRead.{LineRead as Found}
use Rattle.nfg_script.specs.declared.line.Line.{Line as Kept}
use Rattle.nfg_script.specs.Script.{NumberedCommand}
use Rattle.nfg_script.specs.Words.{place_of}
use Rattle.nfg_script.specs.Line.{LineRead}
use Rattle.nfg_script.specs.Grammar.{ReadSoFar}

-- an error is that of reading, unless memory ran out
abbrev pub IsFault : {Y : Type 0} → LineError → Result Y Reason → Type 0
IsFault (Refused reason) read = read ≡ Err reason
IsFault OutOfMemory read = Unit {0}

-- an answer, seen by `seen`, is what reading gives, unless memory ran out
abbrev pub Gives : {X Y : Type 0} → (X → Y) → Result X LineError → Result Y Reason → Type 0
Gives seen (Ok x) read = read ≡ Ok (seen x)
Gives seen (Err error) read = IsFault error read

-- the bytes of words
abbrev pub texts : List (Bor (List ℕ)) → List (List ℕ)
texts words = map (λ word. word.now) words

-- what a line gives, without where it lies in memory
abbrev pub line_read : Found → LineRead
line_read found = record {
  command = found.command;
  path = found.path.now;
  codes = found.codes.items;
  defines = option_map (λ name. name.now) found.defines;
}

-- no earlier line defines the name that a line defines
abbrev pub DefinesNew : (names : List (List ℕ)) → Found → Type 0
DefinesNew names found = IfSome found.defines (λ name. place_of names name.now ≡ None)

-- names and commands that the lines so far gave
abbrev pub so_far : (names : List (List ℕ)) → List NumberedCommand → ReadSoFar
so_far names commands = record { names = names; commands = commands }

-- a line of a script, without where it lies in memory
abbrev pub numbered_command : Kept → NumberedCommand
numbered_command kept = record {
  line = kept.number;
  command = kept.command;
  path = string_bytes kept.path;
  codes = kept.codes.items;
}

-- the answer of a reader of lines is what reading gives, unless memory ran out
abbrev pub Answers : Result (List NumberedCommand) ScriptError → Result (List NumberedCommand) ScriptError → Type 0
Answers (Ok script) read = read ≡ Ok script
Answers (Err error) read = error ≢ NoMemory → read ≡ Err error
