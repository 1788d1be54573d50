-- The script language (this project's own).
use Rattle.std.specs.Prelude.{ℕ, suc, not, ◌||◌, ◌==◌, nat_lt, if◌then◌else◌, List, [], ◌∷◌, ◌++◌, map, length, Option, Some, None, Result, Ok, Err}
use Rattle.std.specs.List.{slice_split}
use Rattle.std.specs.Str.{is_utf8}
use Rattle.std.specs.Str.Lines.{strip_carriage_return}
use Rattle.std.specs.Str.Lossy.{utf8_valid_len}
use Rattle.nfg_script.specs.declared.error.ScriptError.{ScriptError}
use Rattle.nfg_script.specs.declared.error.ScriptError.TheVariants.{TooLong, Malformed, Line}
use Rattle.nfg_script.specs.Script.{NumberedCommand}
use Rattle.nfg_script.specs.Words.{◌>>=◌, words_of}
use Rattle.nfg_script.specs.Line.{LineRead, is_skipped, read_words}

-- the most bytes of a script
abbrev pub byte_limit : ℕ
byte_limit = 1048576

-- the most lines of a script
abbrev pub line_limit : ℕ
line_limit = 10000

-- parts without an empty last one
abbrev pub without_empty_end : List (List ℕ) → List (List ℕ)
without_empty_end [] = []
without_empty_end (part ∷ []) = if length part == 0 then [] else part ∷ []
without_empty_end (part ∷ next ∷ parts) = part ∷ without_empty_end (next ∷ parts)

-- the lines: the parts between line feeds, and the bytes after the last one where there are any,
-- each without a carriage return at its end
unfoldable pub lines_of : List ℕ → List (List ℕ)
lines_of bytes = map strip_carriage_return (without_empty_end (slice_split (λ b. b == 10) bytes))

-- what the lines so far give
pub record ReadSoFar : Type 0 where
  -- the names that they define, in order
  pub names : List (List ℕ)
  pub commands : List NumberedCommand

-- the names, and one more where a line defines it
abbrev pub and_defined : List (List ℕ) → Option (List ℕ) → List (List ℕ)
and_defined names None = names
and_defined names (Some name) = names ++ name ∷ []

-- one more command
abbrev pub and_command : ReadSoFar → (line : ℕ) → LineRead → ReadSoFar
and_command so_far line read = record {
  names = and_defined so_far.names read.defines;
  commands = so_far.commands
      ++ record { line = line; command = read.command; path = read.path; codes = read.codes } ∷ [];
}

-- one more line, of these words
unfoldable pub and_line : ReadSoFar → (line : ℕ) → (words : List (List ℕ)) → Result ReadSoFar ScriptError
and_line so_far line words =
    if is_skipped words then Ok so_far else elim (read_words so_far.names words) [
      | Ok read ↦ Ok (and_command so_far line read)
      | Err reason ↦ Err (Line line reason)
    ]

-- the commands, where these lines are still to be read, the first of them with this number
unfoldable pub commands_from : ReadSoFar → (line : ℕ) → (lines : List (List ℕ)) → Result (List NumberedCommand) ScriptError
commands_from so_far line [] = Ok so_far.commands
commands_from so_far line (first ∷ lines) = do
  next ← and_line so_far line (words_of first)
  commands_from next (suc line) lines

-- the commands of a script, or its first refusal
unfoldable pub parse : List ℕ → Result (List NumberedCommand) ScriptError
parse bytes =
    if nat_lt byte_limit (length bytes) || nat_lt line_limit (length (lines_of bytes)) then Err TooLong
    else (if not (is_utf8 bytes) then Err (Malformed (utf8_valid_len bytes))
    else commands_from (record { names = []; commands = [] }) 1 (lines_of bytes))
