-- Worked rows, each computed from the definitions.
use Rattle.std.proofs.Common.{◌≡◌, ℕ, List, [], ◌∷◌, ◌++◌, true, false, Some, None, Ok, Err, refl, sym, subst, codes, lit≤}
use Rattle.std.specs.Str.{is_utf8, chars}
use Rattle.std.specs.Str.Lossy.{utf8_valid_len}
use Rattle.std.specs.Char.{encode_utf8}
use Rattle.std.specs.Fmt.{digits}
use Rattle.nfg_text.specs.Graphemes.{graphemes_of}
use Rattle.nfg_io.specs.Files.{FilesState}
use Rattle.nfg_decode.specs.declared.encoding.Encoding.TheVariants.{Utf8}
use Rattle.nfg_decode.specs.Utf8.{decode_utf8}
use Rattle.nfg_decode.specs.Encoding.{decode}
use Rattle.nfg_script.specs.declared.command.Command.{Command}
use Rattle.nfg_script.specs.declared.command.Command.TheVariants.{Load, Len, Show}
use Rattle.nfg_script.specs.declared.error.Reason.TheVariants.{BadCommand, WordCount, BadNumber}
use Rattle.nfg_script.specs.declared.error.ScriptError.TheVariants.{Line, TooLong as ScriptTooLong, Malformed as NoText}
use Rattle.nfg_script.specs.Script.{NumberedCommand}
use Rattle.nfg_work.specs.declared.output.Cause.TheVariants.{Malformed, NotEncodable, ClusterTooLong}
use Rattle.nfg_work.specs.declared.output.FileRead.TheVariants.{Bytes, TooLong, Failed}
use Rattle.nfg_work.specs.declared.output.Output.{Output}
use Rattle.nfg_work.specs.Evaluation.{evaluate, evaluate_from, define_new, first_state}
use Rattle.nfg_run.specs.declared.answer.Answer.{Answer}
use Rattle.nfg_run.specs.declared.status.Status.TheVariants.{Done, Refused, Bad, ReadFault}
use Rattle.nfg_run.specs.CommandLine.{Run, Gen, number_of, with_words, command_line, script_path, usage_text, line_feed}
use Rattle.nfg_run.specs.Answer.{answer, answer_script, answer_output, cause_text, reason_text, refusal_text}
use Rattle.nfg_run.specs.Generator.{number_after, draws, first_text, second_text}
use Rattle.nfg_run.specs.Headline.{AreLoadsRead, failed_load, failed_path, is_over_limit, most_after, IsLastOpen, faultless_status}

-- The words.

a_path : script_path (codes "run" ∷ codes "s" ∷ []) ≡ Some (codes "s")
unfolding with_words
a_path = refl

a_hyphen_is_a_path : script_path (codes "run" ∷ codes "-" ∷ []) ≡ Some (codes "-")
unfolding with_words
a_hyphen_is_a_path = refl

no_path : script_path (codes "run" ∷ []) ≡ None
unfolding with_words
no_path = refl

an_option_is_no_path : script_path (codes "run" ∷ codes "-h" ∷ []) ≡ None
unfolding with_words
an_option_is_no_path = refl

one_word_too_many : script_path (codes "run" ∷ codes "s" ∷ codes "t" ∷ []) ≡ None
unfolding with_words
one_word_too_many = refl

another_command : script_path (codes "gen" ∷ codes "s" ∷ []) ≡ None
unfolding with_words
another_command = refl

-- What lawful words ask for.

asks_for_a_run : command_line (codes "run" ∷ codes "s" ∷ []) ≡ Some (Run 4 262144 (codes "s"))
unfolding with_words
asks_for_a_run = refl

options_before_and_after : command_line (codes "run" ∷ codes "--workers=64" ∷ codes "s" ∷ codes "--table" ∷ codes "16" ∷ [])
    ≡ Some (Run 64 16 (codes "s"))
unfolding with_words number_of
options_before_and_after = refl

behind_the_mark : command_line (codes "run" ∷ codes "--" ∷ codes "--table" ∷ []) ≡ Some (Run 4 262144 (codes "--table"))
unfolding with_words
behind_the_mark = refl

a_second_mark_is_plain : command_line (codes "run" ∷ codes "--" ∷ codes "--" ∷ []) ≡ Some (Run 4 262144 (codes "--"))
unfolding with_words
a_second_mark_is_plain = refl

an_option_twice : command_line (codes "run" ∷ codes "--table=16" ∷ codes "s" ∷ codes "--table" ∷ codes "16" ∷ []) ≡ None
unfolding with_words number_of
an_option_twice = refl

a_value_is_missing : command_line (codes "run" ∷ codes "s" ∷ codes "--workers" ∷ []) ≡ None
unfolding with_words
a_value_is_missing = refl

the_mark_is_a_value : command_line (codes "run" ∷ codes "--workers" ∷ codes "--" ∷ codes "s" ∷ []) ≡ None
unfolding with_words number_of
the_mark_is_a_value = refl

no_power_of_two : command_line (codes "run" ∷ codes "--table=24" ∷ codes "s" ∷ []) ≡ None
unfolding with_words number_of
no_power_of_two = refl

asks_for_files : command_line (codes "gen" ∷ codes "1" ∷ codes "003" ∷ []) ≡ Some (Gen 4 262144 1 3)
unfolding with_words number_of
asks_for_files = refl

the_greatest_of_both : command_line (codes "gen" ∷ codes "2147483647" ∷ codes "1048576" ∷ []) ≡ Some (Gen 4 262144 2147483647 1048576)
unfolding with_words number_of
the_greatest_of_both = refl

a_seed_too_great : command_line (codes "gen" ∷ codes "2147483648" ∷ codes "1" ∷ []) ≡ None
unfolding with_words number_of
a_seed_too_great = refl

a_number_too_great : number_of (codes "18446744073709551616") ≡ None
unfolding number_of
a_number_too_great = refl

the_greatest_number : number_of (codes "000018446744073709551615") ≡ Some 18446744073709551615
unfolding number_of
the_greatest_number = refl

no_number : number_of (codes "+1") ≡ None
unfolding number_of
no_number = refl

no_digit : number_of [] ≡ None
unfolding number_of
no_digit = refl

-- The limits of files.

a_longest_file : is_over_limit 0 67108864 ≡ false
a_longest_file = refl

a_file_too_long : is_over_limit 0 67108865 ≡ true
a_file_too_long = refl

all_files_at_their_limit : is_over_limit 201326592 67108864 ≡ false
all_files_at_their_limit = refl

all_files_too_long : is_over_limit 201326593 67108864 ≡ true
all_files_too_long = refl

an_empty_file_after_them : is_over_limit 268435456 0 ≡ false
an_empty_file_after_them = refl

-- What is read.

-- two paths
abbrev f_and_g : List (List ℕ)
f_and_g = codes "f" ∷ codes "g" ∷ []

no_more_after_a_failure : AreLoadsRead None 0 f_and_g (Failed ∷ [])
no_more_after_a_failure = refl

one_file_and_a_failure : AreLoadsRead None 0 f_and_g (Bytes (0x61 ∷ []) ∷ Failed ∷ [])
one_file_and_a_failure = (tt, refl, refl)

an_entry_is_missing : AreLoadsRead None 0 f_and_g (Bytes (0x61 ∷ []) ∷ []) → ⊥
an_entry_is_missing are = are.2

-- Causes.

tells_the_byte : cause_text (Malformed 1) ≡ codes "malformed at byte 1"
unfolding digits
tells_the_byte = refl

tells_the_grapheme : cause_text (NotEncodable 12) ≡ codes "not encodable at grapheme 12"
unfolding digits
tells_the_grapheme = refl

tells_the_cluster : cause_text (ClusterTooLong 0) ≡ codes "cluster too long at grapheme 0"
unfolding digits
tells_the_cluster = refl

-- The answer to a script.

abbrev numbered : (line : ℕ) → Command → NumberedCommand
numbered line command = record { line = line; command = command; path = []; codes = [] }

abbrev line_of : List ℕ → List ℕ
line_of text = text ++ line_feed ∷ []

-- `load a utf8 f`
abbrev one_load : List NumberedCommand
one_load = record { line = 1; command = Load 0 Utf8; path = codes "f"; codes = [] } ∷ []

prints_nothing : answer_script 262144 (Ok []) [] ≡ record { status = Done; bytes = [] }
unfolding evaluate
prints_nothing = refl

names_the_unread_file : answer_script 262144 (Ok one_load) (Failed ∷ []) ≡ record { status = ReadFault; bytes = line_of (codes "line 1: cannot read") }
unfolding evaluate digits
names_the_unread_file = refl

names_the_long_file : answer_script 262144 (Ok one_load) (TooLong ∷ []) ≡ record { status = Refused; bytes = line_of (codes "line 1: file too long") }
unfolding evaluate digits
names_the_long_file = refl

names_the_malformed_byte : answer_script 262144 (Ok one_load) (Bytes (0x61 ∷ 0xE2 ∷ 0x82 ∷ []) ∷ [])
    ≡ record { status = Refused; bytes = line_of (codes "line 1: malformed at byte 1") }
unfolding evaluate digits decode decode_utf8 utf8_valid_len is_utf8 chars encode_utf8
names_the_malformed_byte = refl

-- `load a utf8 f`, `len a`, `show a`
abbrev three_commands : List NumberedCommand
three_commands = one_load ++ numbered 2 (Len 0) ∷ numbered 3 (Show 0) ∷ []

-- what they give where the file has six bytes and these clusters
abbrev of_clusters : List (List ℕ) → Answer
of_clusters clusters =
    let output : Output = elim (define_new 262144 (first_state []) 6 clusters) [
      | Ok next ↦ evaluate_from 262144 next (numbered 2 (Len 0) ∷ numbered 3 (Show 0) ∷ [])
      | Err cause ↦ record { bytes = []; refused = Some (record { line = 1; cause = cause }) }
    ] in answer_output output.bytes output.refused

-- `e`, U+0301, CR LF, `q`
abbrev accent : List ℕ
accent = 0x65 ∷ 0xCC ∷ 0x81 ∷ 0x0D ∷ 0x0A ∷ 0x71 ∷ []

prints_length_and_clusters : graphemes_of (0x65 ∷ 0x301 ∷ 0x0D ∷ 0x0A ∷ 0x71 ∷ []) ≡ (0xE9 ∷ []) ∷ (0x0D ∷ 0x0A ∷ []) ∷ (0x71 ∷ []) ∷ []
    → answer_script 262144 (Ok three_commands) (Bytes accent ∷ []) ≡ record { status = Done; bytes = line_of (codes "3") ++ line_of (codes "E9 D+A 71") }
unfolding evaluate digits decode decode_utf8 utf8_valid_len is_utf8 chars encode_utf8
prints_length_and_clusters clusters =
    let P : List (List ℕ) → Type 0 = λ v. of_clusters v ≡ record { status = Done; bytes = line_of (codes "3") ++ line_of (codes "E9 D+A 71") } in
    subst P (sym clusters) refl

refuses_the_script : answer_script 262144 (Err (Line 1 BadCommand)) [] ≡ record { status = Bad; bytes = line_of (codes "script line 1: bad command") }
unfolding digits
refuses_the_script = refl

refuses_a_number : refusal_text (Line 10000 BadNumber) ≡ line_of (codes "script line 10000: bad number")
unfolding digits
refuses_a_number = refl

refuses_a_script_too_long : refusal_text ScriptTooLong ≡ line_of (codes "script: too long")
refuses_a_script_too_long = refl

refuses_a_malformed_script : refusal_text (NoText 1) ≡ line_of (codes "script: malformed at byte 1")
unfolding digits
refuses_a_malformed_script = refl

the_counts_of_words : reason_text WordCount ≡ codes "wrong count of words"
the_counts_of_words = refl

-- The answer.

abbrev run_s : List (List ℕ)
run_s = codes "run" ∷ codes "s" ∷ []

tells_the_usage : answer (codes "run" ∷ []) None [] ≡ record { status = Bad; bytes = usage_text }
unfolding with_words
tells_the_usage = refl

cannot_read_the_script : answer run_s None [] ≡ record { status = ReadFault; bytes = line_of (codes "script: cannot read") }
unfolding with_words
cannot_read_the_script = refl

-- The path that a fault names.

names_the_script : failed_path (script_path run_s) None [] ≡ Some (codes "s")
unfolding with_words
names_the_script = refl

names_the_file : failed_load f_and_g (Bytes (0x61 ∷ []) ∷ Failed ∷ []) ≡ Some (codes "g")
names_the_file = refl

names_no_path : failed_load f_and_g (Bytes (0x61 ∷ []) ∷ TooLong ∷ []) ≡ None
names_no_path = refl

-- The status where no call fails.

done_without_lines : faultless_status (Some (Run 4 16 (codes "s"))) (Ok []) [] ≡ Done
unfolding evaluate
done_without_lines = refl

refused_for_a_long_file : faultless_status (Some (Run 4 16 (codes "s"))) (Ok one_load) (TooLong ∷ []) ≡ Refused
unfolding evaluate
refused_for_a_long_file = refl

bad_script : faultless_status (Some (Run 4 16 (codes "s"))) (Err (Line 1 BadCommand)) [] ≡ Bad
bad_script = refl

bad_words : faultless_status None (Ok []) [] ≡ Bad
bad_words = refl

-- The path that is open at the end.

most_after_none : most_after 0 ≡ 67108864
most_after_none = refl

most_after_four : most_after 268435455 ≡ 1
most_after_four = refl

abbrev after_g : FilesState
after_g = record { faults = 0; open_path = Some (codes "g"); position = 67108865; broken = false; contents = None }

g_is_open : IsLastOpen after_g (codes "s") 1048576 0 f_and_g (Bytes [] ∷ TooLong ∷ [])
g_is_open = record { open_path = refl; position = λ whole. lit≤ tt }

-- The generator.

the_first_number : number_after 1 1 ≡ 1103527590
the_first_number = refl

the_second_number : number_after 1 2 ≡ 377401575
the_second_number = refl

three_draws : draws 1 3 ≡ 6 ∷ 14 ∷ 1 ∷ []
three_draws = refl

the_first_text : first_text 1 3 ≡ 0x1F1E6 ∷ 0x939 ∷ 0x93F ∷ 0xE9 ∷ []
the_first_text = refl

the_second_text : second_text 1 3 ≡ 0x1F1E6 ∷ 0x939 ∷ 0x93F ∷ 0x65 ∷ 0x301 ∷ []
the_second_text = refl
