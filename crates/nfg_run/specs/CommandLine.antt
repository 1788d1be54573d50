-- The words of the command line (this project's own). Each is a text in UTF-8.
use Rattle.std.specs.Prelude.{ℕ, zero, suc, ◌^◌, ◌≤◌, Bool, not, ◌&&◌, ◌||◌, ◌==◌, nat_le, nat_lt, nat_eq, if◌then◌else◌, List, [], ◌∷◌, ◌++◌, length, drop, Option, Some, None, option_map, codes, bytes_eq}
use Rattle.std.specs.List.{list_all, starts_with}
use Rattle.std.specs.Char.{is_ascii_digit}
use Rattle.std.specs.Str.Parse.{digits_value}
use Rattle.nfg_run.specs.declared.said.Said.{Said}

abbrev pub line_feed : ℕ
line_feed = 10

-- what is printed where the words aren't lawful
abbrev pub usage_text : List ℕ
usage_text =
    codes "usage: nfg run [--workers W] [--table N] SCRIPT" ++ line_feed ∷
    codes "       nfg gen [--workers W] [--table N] SEED COUNT" ++ line_feed ∷ []

-- the value of one or more decimal digits, where it is below 2^64
unfoldable pub number_of : List ℕ → Option ℕ
number_of word =
    if nat_le 1 (length word) && list_all is_ascii_digit word && nat_lt (digits_value 10 word) (2 ^ 64)
    then Some (digits_value 10 word) else None

-- the number, where there is one and it passes the test
abbrev pub if_passes : (ℕ → Bool) → Option ℕ → Option ℕ
if_passes test None = None
if_passes test (Some number) = if test number then Some number else None

-- 1 to 64 workers
abbrev pub is_worker_count : ℕ → Bool
is_worker_count number = nat_le 1 number && nat_le number 64

-- so many workers evaluate a script
abbrev pub IsWorkerCount : ℕ → Type 0
IsWorkerCount number = (1 ≤ number) × (number ≤ 64)

-- one of the powers of two from 2^exponent to 2^(exponent + more)
abbrev pub is_power_from : (exponent more : ℕ) → ℕ → Bool
is_power_from exponent zero number = number == 2 ^ exponent
is_power_from exponent (suc more) number = number == 2 ^ exponent || is_power_from (suc exponent) more number

-- a power of two from 2^4 to 2^20
abbrev pub is_table_size : ℕ → Bool
is_table_size number = is_power_from 4 16 number

-- a seed is below 2^31
abbrev pub is_seed : ℕ → Bool
is_seed number = nat_lt number (2 ^ 31)

-- 1 to 1,048,576 spellings
abbrev pub is_count : ℕ → Bool
is_count number = nat_le 1 number && nat_le number 1048576

-- `-`, or a word that doesn't begin with `-`
abbrev pub is_plain_word : List ℕ → Bool
is_plain_word word = bytes_eq word (codes "-") || not (starts_with nat_eq word (codes "-"))

-- an option that takes a value
pub data OptionName : Type 0 where
  Workers : OptionName
  Table : OptionName

-- what a word before `--` is, where it isn't the value of an option
pub data WordKind : Type 0 where
  Mark : WordKind
  PlainWord : WordKind
  Named : (name : OptionName) → WordKind
  NamedWith : (name : OptionName) (value : List ℕ) → WordKind
  Unknown : WordKind

-- The mark `--`, a plain word, an option, or an option with its value. There is no other.
abbrev pub kind_of : List ℕ → WordKind
kind_of word =
    if bytes_eq word (codes "--") then Mark
    else (if is_plain_word word then PlainWord
    else (if bytes_eq word (codes "--workers") then Named Workers
    else (if bytes_eq word (codes "--table") then Named Table
    else (if starts_with nat_eq word (codes "--workers=") then NamedWith Workers (drop 10 word)
    else (if starts_with nat_eq word (codes "--table=") then NamedWith Table (drop 8 word)
    else Unknown)))))

-- nothing is said
abbrev pub nothing_said : Said
nothing_said = record { workers = None; places = None; plain = [] }

-- an option has a value once
abbrev pub if_first : {X Y : Type 0} → (earlier : Option X) → Y → Option Y
if_first None said = Some said
if_first (Some value) said = None

-- the option has this number, where it has none yet
abbrev pub with_number : Said → OptionName → Option ℕ → Option Said
with_number said name None = None
with_number said Workers (Some number) =
    if_first said.workers (record { workers = Some number; places = said.places; plain = said.plain })
with_number said Table (Some number) =
    if_first said.places (record { workers = said.workers; places = Some number; plain = said.plain })

-- the number that a word is as the value of the option
abbrev pub option_number : OptionName → List ℕ → Option ℕ
option_number Workers word = if_passes is_worker_count (number_of word)
option_number Table word = if_passes is_table_size (number_of word)

-- the option has the value, where that is lawful and the option has none yet
abbrev pub with_value : Said → OptionName → List ℕ → Option Said
with_value said name word = with_number said name (option_number name word)

-- one more plain word
abbrev pub with_plain : Said → List ℕ → Said
with_plain said word = record { workers = said.workers; places = said.places; plain = said.plain ++ word ∷ [] }

-- what the next word is: a plain word, an option or the mark; the value of an option; or a plain word, whatever it is
pub data Next : Type 0 where
  Free : Next
  Value : (name : OptionName) → Next
  Plain : Next

-- what is said, and a free word is next
abbrev pub then_free : {X : Type 0} → Option X → Option (X × Next)
then_free = option_map (λ said. (said, Free))

-- a word of this kind, which isn't the value of an option, and what the next word is
abbrev pub with_kind : WordKind → Said → List ℕ → Option (Said × Next)
with_kind Mark said word = Some (said, Plain)
with_kind PlainWord said word = Some (with_plain said word, Free)
with_kind (Named name) said word = Some (said, Value name)
with_kind (NamedWith name value) said word = then_free (with_value said name value)
with_kind Unknown said word = None

-- a word is the value of the option before it, or free; behind `--` it is plain
abbrev pub with_word : Next → Said → List ℕ → Option (Said × Next)
with_word Free said word = with_kind (kind_of word) said word
with_word (Value name) said word = then_free (with_value said name word)
with_word Plain said word = Some (with_plain said word, Plain)

-- behind the last word no option waits for its value
abbrev pub with_no_word : {X : Type 0} → Next → X → Option X
with_no_word Free said = Some said
with_no_word (Value name) said = None
with_no_word Plain said = Some said

-- what is said with these words, one after the other
unfoldable pub with_words : Next → Said → List (List ℕ) → Option Said
with_words next said [] = with_no_word next said
with_words next said (word ∷ words) = elim (with_word next said word) [
  | None ↦ None
  | Some more ↦ with_words more.1 more.0 words
]

-- what the words after the first say, where they are lawful
abbrev pub said_by : List (List ℕ) → Option Said
said_by words = with_words Free nothing_said words

-- what lawful words ask for
pub data CommandLine : Type 0 where
  Run : (workers places : ℕ) (path : List ℕ) → CommandLine
  Gen : (workers places seed count : ℕ) → CommandLine

-- the number of an option, or another where it isn't given
abbrev pub or_default : Option ℕ → (default : ℕ) → ℕ
or_default None default = default
or_default (Some number) default = number

-- 4 workers, where no number is given
abbrev pub workers_of : Said → ℕ
workers_of said = or_default said.workers 4

-- 262,144 places, where no number is given
abbrev pub places_of : Said → ℕ
places_of said = or_default said.places 262144

-- `run` has one plain word, the script's path
abbrev pub run_of : Said → List (List ℕ) → Option CommandLine
run_of said (path ∷ []) = Some (Run (workers_of said) (places_of said) path)
run_of said plain = None

-- both numbers, where there are two
abbrev pub gen_by : Said → (seed count : Option ℕ) → Option CommandLine
gen_by said None count = None
gen_by said (Some seed) None = None
gen_by said (Some seed) (Some count) = Some (Gen (workers_of said) (places_of said) seed count)

-- `gen` has two plain words, the seed and the count
abbrev pub gen_of : Said → List (List ℕ) → Option CommandLine
gen_of said (seed ∷ count ∷ []) =
    gen_by said (if_passes is_seed (number_of seed)) (if_passes is_count (number_of count))
gen_of said plain = None

-- what the first word asks for with what the others say
abbrev pub asked : List ℕ → Option Said → Option CommandLine
asked command None = None
asked command (Some said) =
    if bytes_eq command (codes "run") then run_of said said.plain
    else (if bytes_eq command (codes "gen") then gen_of said said.plain
    else None)

-- what the words ask for, where they are lawful
abbrev pub command_line : List (List ℕ) → Option CommandLine
command_line [] = None
command_line (command ∷ words) = asked command (said_by words)

-- the path of the script to read, where there is one
abbrev pub path_of : Option CommandLine → Option (List ℕ)
path_of (Some (Run workers places path)) = Some path
path_of line = None

-- the script's path, where the words are lawful and name one
abbrev pub script_path : List (List ℕ) → Option (List ℕ)
script_path words = path_of (command_line words)
