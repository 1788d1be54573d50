-- The answer of a run: the status and the bytes, from the words and what was read (this project's own).
use Rattle.std.specs.Prelude.{ℕ, List, [], ◌∷◌, ◌++◌, Option, Some, None, Result, Ok, Err, codes}
use Rattle.std.specs.Fmt.{decimal}
use Rattle.nfg_script.specs.declared.error.Reason.{Reason}
use Rattle.nfg_script.specs.declared.error.Reason.TheVariants.{BadCommand, WordCount, BadName, NameTaken, UnknownName, BadNumber, BadEncoding, BadCodePoint}
use Rattle.nfg_script.specs.declared.error.ScriptError.{ScriptError}
use Rattle.nfg_script.specs.declared.error.ScriptError.TheVariants.{TooLong, Malformed as NoText, Line, OutOfMemory}
use Rattle.nfg_script.specs.Script.{NumberedCommand}
use Rattle.nfg_script.specs.Grammar.{parse}
use Rattle.nfg_work.specs.declared.output.Cause.{Cause}
use Rattle.nfg_work.specs.declared.output.Cause.TheVariants.{CannotRead, FileTooLong, Malformed, OutOfRange, NotEncodable, StringTooLong, AllTooLong, ClusterTooLong, TableFull, OutputTooLong}
use Rattle.nfg_work.specs.declared.output.FileRead.{FileRead}
use Rattle.nfg_work.specs.declared.output.FileRead.TheVariants.{Bytes}
use Rattle.nfg_work.specs.declared.output.RefusedLine.{RefusedLine}
use Rattle.nfg_work.specs.Evaluation.{evaluate}
use Rattle.nfg_run.specs.declared.answer.Answer.{Answer}
use Rattle.nfg_run.specs.declared.status.Status.{Status}
use Rattle.nfg_run.specs.declared.status.Status.TheVariants.{Done, Refused, Bad, ReadFault}
use Rattle.nfg_run.specs.CommandLine.{CommandLine, Run, Gen, command_line, usage_text, line_feed}
use Rattle.nfg_run.specs.Generator.{first_file, second_file, script_text}

-- the text that tells a cause
abbrev pub cause_text : Cause → List ℕ
cause_text CannotRead = codes "cannot read"
cause_text FileTooLong = codes "file too long"
cause_text (Malformed at) = codes "malformed at byte " ++ decimal at
cause_text OutOfRange = codes "out of range"
cause_text (NotEncodable at) = codes "not encodable at grapheme " ++ decimal at
cause_text StringTooLong = codes "string too long"
cause_text AllTooLong = codes "all strings too long"
cause_text (ClusterTooLong at) = codes "cluster too long at grapheme " ++ decimal at
cause_text TableFull = codes "table full"
cause_text OutputTooLong = codes "output too long"

-- the status of a run that a line of this cause ends
abbrev pub cause_status : Cause → Status
cause_status CannotRead = ReadFault
cause_status _ = Refused

-- `line L: ` and the cause
abbrev pub refused_text : RefusedLine → List ℕ
refused_text refused =
    codes "line " ++ decimal refused.line ++ codes ": " ++ cause_text refused.cause ++ line_feed ∷ []

-- what the commands print, and the refused line behind it
abbrev pub answer_output : List ℕ → Option RefusedLine → Answer
answer_output bytes None = record { status = Done; bytes = bytes }
answer_output bytes (Some refused) =
    record { status = cause_status refused.cause; bytes = bytes ++ refused_text refused }

-- the text that tells why a line of a script is refused
abbrev pub reason_text : Reason → List ℕ
reason_text BadCommand = codes "bad command"
reason_text WordCount = codes "wrong count of words"
reason_text BadName = codes "bad name"
reason_text NameTaken = codes "name taken"
reason_text UnknownName = codes "unknown name"
reason_text BadNumber = codes "bad number"
reason_text BadEncoding = codes "bad encoding"
reason_text BadCodePoint = codes "bad code point"

-- the line that tells why a script is refused; want of memory refuses none, and has no line
abbrev pub refusal_text : ScriptError → List ℕ
refusal_text TooLong = codes "script: too long" ++ line_feed ∷ []
refusal_text (NoText at) = codes "script: malformed at byte " ++ decimal at ++ line_feed ∷ []
refusal_text (Line line reason) =
    codes "script line " ++ decimal line ++ codes ": " ++ reason_text reason ++ line_feed ∷ []
refusal_text OutOfMemory = []

-- the answer to the commands of a script over so many places, or to its refusal
abbrev pub answer_script : (places : ℕ) → Result (List NumberedCommand) ScriptError → List FileRead → Answer
answer_script places (Err refusal) reads = record { status = Bad; bytes = refusal_text refusal }
answer_script places (Ok script) reads =
    let output = evaluate script reads places in answer_output output.bytes output.refused

-- the answer to a script's bytes, or to none where they can't be read
abbrev pub answer_bytes : (places : ℕ) → Option (List ℕ) → List FileRead → Answer
answer_bytes places None reads =
    record { status = ReadFault; bytes = codes "script: cannot read" ++ line_feed ∷ [] }
answer_bytes places (Some bytes) reads = answer_script places (parse bytes) reads

-- what is read for the two loads of the script that is generated
abbrev pub generated_reads : (seed count : ℕ) → List FileRead
generated_reads seed count = Bytes (first_file seed count) ∷ Bytes (second_file seed count) ∷ []

-- the answer to what lawful words ask for, or to other words
abbrev pub answer_line : Option CommandLine → Option (List ℕ) → List FileRead → Answer
answer_line None script reads = record { status = Bad; bytes = usage_text }
answer_line (Some (Run workers places path)) script reads = answer_bytes places script reads
answer_line (Some (Gen workers places seed count)) script reads =
    answer_script places (parse script_text) (generated_reads seed count)

-- the answer to the words, to the script's bytes (none where they can't be read) and to what was read for its loads
abbrev pub answer : List (List ℕ) → Option (List ℕ) → List FileRead → Answer
answer words script reads = answer_line (command_line words) script reads
