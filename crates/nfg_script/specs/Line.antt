-- The commands of the script language, and their lines (this project's own).
use Rattle.std.specs.Prelude.{ℕ, Bool, true, ◌==◌, if◌then◌else◌, List, [], ◌∷◌, slice_index, codes, bytes_eq, Option, Some, None, Result, Ok, Err}
use Rattle.nfg_script.specs.declared.command.Command.{Command}
use Rattle.nfg_script.specs.declared.command.Command.TheVariants.{Load, Text, Cat, Sub, Rep, Find, Rfind, Eq, Cmp, Len, Show, Shape, Put}
use Rattle.nfg_script.specs.declared.error.Reason.{Reason}
use Rattle.nfg_script.specs.declared.error.Reason.TheVariants.{BadCommand, WordCount}
use Rattle.nfg_script.specs.Words.{◌>>=◌, new_name, known_name, number_of, encoding_of, code_points_of}

-- what a line gives
pub record LineRead : Type 0 where
  pub command : Command
  -- the path of a load
  pub path : List ℕ
  -- the code points of a text
  pub codes : List ℕ
  -- the name that the line defines
  pub defines : Option (List ℕ)

-- a line that gives no more than its command
abbrev pub command_alone : Command → LineRead
command_alone command = record { command = command; path = []; codes = []; defines = None }

-- a line that gives its command and defines a name
abbrev pub command_defining : (name : List ℕ) → Command → LineRead
command_defining name command = record { command = command; path = []; codes = []; defines = Some name }

-- the name that a line defines, and one that it uses
unfoldable pub new_and_known : (names : List (List ℕ)) → (name operand : List ℕ) → Result (ℕ × ℕ) Reason
new_and_known names name operand = do
  n ← new_name names name
  a ← known_name names operand
  Ok (n, a)

-- two names that a line uses
unfoldable pub two_known : (names : List (List ℕ)) → (first second : List ℕ) → Result (ℕ × ℕ) Reason
two_known names first second = do
  a ← known_name names first
  b ← known_name names second
  Ok (a, b)

-- two numbers
unfoldable pub two_numbers : (first second : List ℕ) → Result (ℕ × ℕ) Reason
two_numbers first second = do
  m ← number_of first
  n ← number_of second
  Ok (m, n)

-- Each form has the names defined so far, and the words after the first.

-- load N ENC PATH
unfoldable pub load_form : (names words : List (List ℕ)) → Result LineRead Reason
load_form names (name ∷ encoding ∷ path ∷ []) = do
  n ← new_name names name
  enc ← encoding_of encoding
  Ok (record { command = Load n enc; path = path; codes = []; defines = Some name })
load_form names words = Err WordCount

-- text N HEX ...
unfoldable pub text_form : (names words : List (List ℕ)) → Result LineRead Reason
text_form names (name ∷ code_points) = do
  n ← new_name names name
  points ← code_points_of code_points
  Ok (record { command = Text n; path = []; codes = points; defines = Some name })
text_form names words = Err WordCount

-- cat N A B
unfoldable pub cat_form : (names words : List (List ℕ)) → Result LineRead Reason
cat_form names (name ∷ first ∷ second ∷ []) = do
  n ← new_name names name
  both ← two_known names first second
  Ok (command_defining name (Cat n both.0 both.1))
cat_form names words = Err WordCount

-- sub N A START LEN
unfoldable pub sub_form : (names words : List (List ℕ)) → Result LineRead Reason
sub_form names (name ∷ operand ∷ start ∷ count ∷ []) = do
  both ← new_and_known names name operand
  span ← two_numbers start count
  Ok (command_defining name (Sub both.0 both.1 span.0 span.1))
sub_form names words = Err WordCount

-- rep N A COUNT
unfoldable pub rep_form : (names words : List (List ℕ)) → Result LineRead Reason
rep_form names (name ∷ operand ∷ count ∷ []) = do
  both ← new_and_known names name operand
  n ← number_of count
  Ok (command_defining name (Rep both.0 both.1 n))
rep_form names words = Err WordCount

-- find A B FROM, rfind A B FROM
unfoldable pub search_form : (ℕ → ℕ → ℕ → Command) → (names words : List (List ℕ)) → Result LineRead Reason
search_form command names (text ∷ needle ∷ place ∷ []) = do
  both ← two_known names text needle
  at ← number_of place
  Ok (command_alone (command both.0 both.1 at))
search_form command names words = Err WordCount

-- eq A B, cmp A B
unfoldable pub two_names_form : (ℕ → ℕ → Command) → (names words : List (List ℕ)) → Result LineRead Reason
two_names_form command names (first ∷ second ∷ []) = do
  both ← two_known names first second
  Ok (command_alone (command both.0 both.1))
two_names_form command names words = Err WordCount

-- len A, show A, shape A
unfoldable pub one_name_form : (ℕ → Command) → (names words : List (List ℕ)) → Result LineRead Reason
one_name_form command names (operand ∷ []) = do
  a ← known_name names operand
  Ok (command_alone (command a))
one_name_form command names words = Err WordCount

-- put A ENC
unfoldable pub put_form : (names words : List (List ℕ)) → Result LineRead Reason
put_form names (operand ∷ encoding ∷ []) = do
  a ← known_name names operand
  enc ← encoding_of encoding
  Ok (command_alone (Put a enc))
put_form names words = Err WordCount

-- the form that the first word asks for
unfoldable pub form_of : (names words : List (List ℕ)) → (first : List ℕ) → Result LineRead Reason
form_of names words first =
    if bytes_eq first (codes "load") then load_form names words
    else (if bytes_eq first (codes "text") then text_form names words
    else (if bytes_eq first (codes "cat") then cat_form names words
    else (if bytes_eq first (codes "sub") then sub_form names words
    else (if bytes_eq first (codes "rep") then rep_form names words
    else (if bytes_eq first (codes "find") then search_form Find names words
    else (if bytes_eq first (codes "rfind") then search_form Rfind names words
    else (if bytes_eq first (codes "eq") then two_names_form Eq names words
    else (if bytes_eq first (codes "cmp") then two_names_form Cmp names words
    else (if bytes_eq first (codes "len") then one_name_form Len names words
    else (if bytes_eq first (codes "show") then one_name_form Show names words
    else (if bytes_eq first (codes "shape") then one_name_form Shape names words
    else (if bytes_eq first (codes "put") then put_form names words
    else Err BadCommand))))))))))))

-- the words of a line that is skipped: there are none, or the first begins with `#`
abbrev pub is_skipped : List (List ℕ) → Bool
is_skipped [] = true
is_skipped (first ∷ words) = slice_index first 0 == 35

-- what the words of a line give that isn't skipped
unfoldable pub read_words : (names words : List (List ℕ)) → Result LineRead Reason
read_words names [] = Err BadCommand
read_words names (first ∷ words) = form_of names words first
