-- What the status tells of the faults of the files.
use Rattle.std.proofs.Common.{◌≡◌, ℕ, ◌+◌, Bool, true, false, List, [], ◌∷◌, length, Option, Some, None, IfSome, Result, Ok, Err, refl, sym, ap, codes, ◌∙◌}
use Rattle.std.proofs.lemmas.Bool.{false_from_ne_true}
use Rattle.std.specs.Str.{is_utf8, chars}
use Rattle.std.specs.Char.{encode_utf8}
use Rattle.nfg_io.specs.Causes.{Rose}
use Rattle.nfg_io.specs.Files.{FilesState, Contents, HasFailedAt}
use Rattle.nfg_script.specs.declared.error.ScriptError.{ScriptError}
use Rattle.nfg_script.specs.Script.{NumberedCommand}
use Rattle.nfg_script.specs.Words.{words_of, is_name, place_of, new_name, known_name, number_of, encoding_of, code_point_of, code_points_of}
use Rattle.nfg_script.specs.Line.{load_form, text_form, cat_form, sub_form, rep_form, search_form, two_names_form, one_name_form, put_form, new_and_known, two_known, two_numbers, form_of, read_words}
use Rattle.nfg_script.specs.Grammar.{lines_of, and_line, commands_from, parse}
use Rattle.nfg_work.specs.declared.output.Cause.{Cause}
use Rattle.nfg_work.specs.declared.output.Cause.TheVariants.{CannotRead, FileTooLong, Malformed, OutOfRange, NotEncodable, StringTooLong, AllTooLong, ClusterTooLong, TableFull, OutputTooLong}
use Rattle.nfg_work.specs.declared.output.FileRead.{FileRead}
use Rattle.nfg_work.specs.declared.output.FileRead.TheVariants.{Bytes, TooLong, Failed}
use Rattle.nfg_work.specs.declared.output.RefusedLine.{RefusedLine}
use Rattle.nfg_work.specs.Evaluation.{evaluate}
use Rattle.nfg_work.specs.Laws.{has_failed, HasEntries, FailedReadIsCause}
use Rattle.nfg_run.specs.declared.answer.Answer.{Answer}
use Rattle.nfg_run.specs.declared.status.Status.{Status}
use Rattle.nfg_run.specs.declared.status.Status.TheVariants.{Refused, ReadFault}
use Rattle.nfg_run.specs.CommandLine.{CommandLine, Run, Gen, command_line, path_of}
use Rattle.nfg_run.specs.Generator.{script_text}
use Rattle.nfg_run.specs.Answer.{cause_status, answer_output, answer_script, answer_line, generated_reads}
use Rattle.nfg_run.specs.Headline.{AreLoadsRead, AreRead, accepted_paths, failed_load, failed_path, IsAnswered, IsFaultless, faultless_output, faultless_script, faultless_status}

-- what was read has its entries
HasEntries-of : (contents : Option Contents) (earlier : ℕ) (paths : List (List ℕ)) (reads : List FileRead)
    → AreLoadsRead contents earlier paths reads → HasEntries paths reads
HasEntries-of contents earlier [] reads are = tt
HasEntries-of contents earlier (path ∷ paths) [] are = are
HasEntries-of contents earlier (path ∷ paths) (Failed ∷ reads) are = tt
HasEntries-of contents earlier (path ∷ paths) (TooLong ∷ reads) are = tt
HasEntries-of contents earlier (path ∷ paths) (Bytes bytes ∷ reads) are = HasEntries-of contents (earlier + length bytes) paths reads are.2

no_failed : (reads : List FileRead) → reads ≡ [] → has_failed reads ≡ false
no_failed reads e = rw e refl

-- where a load failed, the count rose
rose-load : (contents : Option Contents) (before after : FilesState) (earlier : ℕ) (paths : List (List ℕ)) (reads : List FileRead)
    → AreLoadsRead contents earlier paths reads → IfSome (failed_load paths reads) (HasFailedAt before after)
    → has_failed reads ≡ true → Rose before.faults after.faults
rose-load contents before after earlier [] reads are cause failed = absurd (let none = no_failed reads are in cc)
rose-load contents before after earlier (path ∷ paths) [] are cause failed = absurd are
rose-load contents before after earlier (path ∷ paths) (Failed ∷ reads) are cause failed = cause.rose
rose-load contents before after earlier (path ∷ paths) (TooLong ∷ reads) are cause failed = absurd (let none = no_failed reads are.1 in cc)
rose-load contents before after earlier (path ∷ paths) (Bytes bytes ∷ reads) are cause failed =
    rose-load contents before after (earlier + length bytes) paths reads are.2 cause failed

-- a cause of this status is that of a file that can't be read
is_read_fault : (cause : Cause) → cause_status cause ≡ ReadFault → cause ≡ CannotRead
is_read_fault CannotRead e = refl
is_read_fault FileTooLong e = cc
is_read_fault (Malformed at) e = cc
is_read_fault OutOfRange e = cc
is_read_fault (NotEncodable at) e = cc
is_read_fault StringTooLong e = cc
is_read_fault AllTooLong e = cc
is_read_fault (ClusterTooLong at) e = cc
is_read_fault TableFull e = cc
is_read_fault OutputTooLong e = cc

-- any other cause has the status of a refused line
is_refused : (cause : Cause) (failed : Bool) → (cause ≡ CannotRead → failed ≡ true) → failed ≡ false → cause_status cause ≡ Refused
is_refused CannotRead failed why none = absurd (let some = why refl in cc)
is_refused FileTooLong failed why none = refl
is_refused (Malformed at) failed why none = refl
is_refused OutOfRange failed why none = refl
is_refused (NotEncodable at) failed why none = refl
is_refused StringTooLong failed why none = refl
is_refused AllTooLong failed why none = refl
is_refused (ClusterTooLong at) failed why none = refl
is_refused TableFull failed why none = refl
is_refused OutputTooLong failed why none = refl

-- a refused line has its cause in what was read
abbrev HasReason : (failed : Bool) → Option RefusedLine → Type 0
HasReason failed refused = IfSome refused (λ line. line.cause ≡ CannotRead → failed ≡ true)

failed-output : (failed : Bool) (bytes : List ℕ) (refused : Option RefusedLine) → HasReason failed refused
    → (answer_output bytes refused).status ≡ ReadFault → failed ≡ true
failed-output failed bytes None why e = cc
failed-output failed bytes (Some refused) why e = why (is_read_fault refused.cause e)

faultless-output : (failed : Bool) (bytes : List ℕ) (refused : Option RefusedLine) → HasReason failed refused → failed ≡ false
    → (answer_output bytes refused).status ≡ faultless_output refused
faultless-output failed bytes None why none = refl
faultless-output failed bytes (Some refused) why none = is_refused refused.cause failed why none

-- the script that is generated loads two files
generated_paths : accepted_paths (parse script_text) ≡ codes "a" ∷ codes "b" ∷ []
unfolding parse is_utf8 chars encode_utf8 lines_of words_of commands_from and_line read_words form_of load_form text_form cat_form sub_form rep_form search_form two_names_form one_name_form put_form new_and_known two_known two_numbers new_name known_name is_name place_of number_of encoding_of code_points_of code_point_of
generated_paths = refl

HasEntries-generated : (seed count : ℕ) → HasEntries (accepted_paths (parse script_text)) (generated_reads seed count)
HasEntries-generated seed count = rw generated_paths tt

-- a line that can't be read has its cause in what was read
failed-script : FailedReadIsCause → (places : ℕ) (parsed : Result (List NumberedCommand) ScriptError) (reads : List FileRead)
    → HasEntries (accepted_paths parsed) reads → (answer_script places parsed reads).status ≡ ReadFault → has_failed reads ≡ true
failed-script law places (Err refusal) reads entries e = cc
failed-script law places (Ok script) reads entries e =
    let output = evaluate script reads places in
    failed-output (has_failed reads) output.bytes output.refused (law places reads script entries) e

rose-line : FailedReadIsCause → (contents : Option Contents) (before after : FilesState) (line : Option CommandLine) (script : Option (List ℕ))
    (reads : List FileRead) → AreRead contents (path_of line) script reads
    → IfSome (failed_path (path_of line) script reads) (HasFailedAt before after)
    → (answer_line line script reads).status ≡ ReadFault → Rose before.faults after.faults
rose-line law contents before after None script reads are cause e = absurd (cc)
rose-line law contents before after (Some (Gen workers places seed count)) script reads are cause e =
    absurd (let failed = failed-script law places (parse script_text) (generated_reads seed count) (HasEntries-generated seed count) e in cc)
rose-line law contents before after (Some (Run workers places path)) None reads are cause e = cause.rose
rose-line law contents before after (Some (Run workers places path)) (Some bytes) reads are cause e =
    let paths = accepted_paths (parse bytes) in
    rose-load contents before after 0 paths reads are.1 cause
    (failed-script law places (parse bytes) reads (HasEntries-of contents 0 paths reads are.1) e)

-- an answer of this status has its cause in the files
pub read_fault-rose : FailedReadIsCause → (words : List (List ℕ)) (before after : FilesState) (given : Answer)
    → IsAnswered words before after given → given.status ≡ ReadFault → Rose before.faults after.faults
read_fault-rose law words before after given answered e =
    rose-line law before.contents before after (command_line words) answered.script answered.reads answered.are_read answered.read_fault_cause
    (ap (λ a. a.status) (sym answered.answer_is) ∙ e)

faultless-script : FailedReadIsCause → (places : ℕ) (parsed : Result (List NumberedCommand) ScriptError) (reads : List FileRead)
    → HasEntries (accepted_paths parsed) reads → has_failed reads ≡ false
    → (answer_script places parsed reads).status ≡ faultless_script places parsed reads
faultless-script law places (Err refusal) reads entries none = refl
faultless-script law places (Ok script) reads entries none =
    let output = evaluate script reads places in
    faultless-output (has_failed reads) output.bytes output.refused (law places reads script entries) none

-- what was read where no call failed, by what the words ask for
record IsFaultlessAt (contents : Option Contents) (line : Option CommandLine) (status : Status) : Type 0 where
  script : List ℕ
  reads : List FileRead
  are_read : AreRead contents (path_of line) (Some script) reads
  none_failed : has_failed reads ≡ false
  status_is : status ≡ faultless_status line (parse script) reads

faultless-line : FailedReadIsCause → (contents : Option Contents) (before after : FilesState) (line : Option CommandLine) (script : Option (List ℕ))
    (reads : List FileRead) → AreRead contents (path_of line) script reads
    → IfSome (failed_path (path_of line) script reads) (HasFailedAt before after)
    → ¬ Rose before.faults after.faults → IsFaultlessAt contents line (answer_line line script reads).status
faultless-line law contents before after None script reads are cause never =
    record { script = []; reads = reads; are_read = are; none_failed = no_failed reads are; status_is = refl }
faultless-line law contents before after (Some (Gen workers places seed count)) script reads are cause never =
    record {
      script = [];
      reads = reads;
      are_read = are;
      none_failed = no_failed reads are;
      status_is = faultless-script law places (parse script_text) (generated_reads seed count) (HasEntries-generated seed count) refl;
    }
faultless-line law contents before after (Some (Run workers places path)) None reads are cause never = absurd (never cause.rose)
faultless-line law contents before after (Some (Run workers places path)) (Some bytes) reads are cause never =
    let paths = accepted_paths (parse bytes) in
    let none : has_failed reads ≡ false =
    false_from_ne_true (has_failed reads) (λ failed. never (rose-load contents before after 0 paths reads are.1 cause failed)) in
    record {
      script = bytes;
      reads = reads;
      are_read = are;
      none_failed = none;
      status_is = faultless-script law places (parse bytes) reads (HasEntries-of contents 0 paths reads are.1) none;
    }

-- where the count of the files did not rise, all was read
pub faultless : FailedReadIsCause → (words : List (List ℕ)) (before after : FilesState) (given : Answer) → IsAnswered words before after given
    → ¬ Rose before.faults after.faults → IsFaultless words before given.status
faultless law words before after given answered never =
    let at = faultless-line law before.contents before after (command_line words) answered.script answered.reads answered.are_read answered.read_fault_cause never in
    record {
      script = at.script;
      reads = at.reads;
      are_read = at.are_read;
      none_failed = at.none_failed;
      status_is = ap (λ a. a.status) answered.answer_is ∙ at.status_is;
    }
