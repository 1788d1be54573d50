-- The words of a line, and what a word alone means (this project's own).
use Rattle.std.specs.Prelude.{ℕ, ◌^◌, Bool, not, ◌&&◌, ◌||◌, ◌==◌, nat_le, nat_lt, if◌then◌else◌, List, [], ◌∷◌, length, filter, codes, bytes_eq, Option, Some, None, Result, Ok, Err}
use Rattle.std.specs.List.{list_all, slice_split, position}
use Rattle.std.specs.Char.{is_ascii_alphanumeric, is_ascii_digit, is_ascii_hexdigit}
use Rattle.std.specs.Str.{all_scalars}
use Rattle.std.specs.Str.Parse.{digits_value}
use Rattle.nfg_decode.specs.declared.encoding.Encoding.{Encoding}
use Rattle.nfg_decode.specs.declared.encoding.Encoding.TheVariants.{Utf8, Utf16, Utf16Le, Utf16Be, Latin1}
use Rattle.nfg_script.specs.declared.error.Reason.{Reason}
use Rattle.nfg_script.specs.declared.error.Reason.TheVariants.{BadName, NameTaken, UnknownName, BadNumber, BadEncoding, BadCodePoint}

-- a space or a tab
abbrev pub is_blank : ℕ → Bool
is_blank b = b == 32 || b == 9

-- what stands between blanks, where it isn't empty
unfoldable pub words_of : List ℕ → List (List ℕ)
words_of line = filter (λ word. nat_lt 0 (length word)) (slice_split is_blank line)

-- what follows a step that may be refused
infixl 10 ◌>>=◌
abbrev pub ◌>>=◌ : {A B E : Type 0} → Result A E → (A → Result B E) → Result B E
(Ok x) >>= f = f x
(Err refusal) >>= f = Err refusal

-- an ASCII letter, an ASCII digit or `_`
abbrev pub is_name_byte : ℕ → Bool
is_name_byte b = is_ascii_alphanumeric b || b == 95

-- 1 to 64 letters, digits and `_`
unfoldable pub is_name : List ℕ → Bool
is_name word = nat_le 1 (length word) && nat_le (length word) 64 && list_all is_name_byte word

-- the place of a name among those that earlier lines define
unfoldable pub place_of : (names : List (List ℕ)) → List ℕ → Option ℕ
place_of names word = position (λ name. bytes_eq name word) names

-- the number of the name that a line defines, which no earlier line defines
unfoldable pub new_name : (names : List (List ℕ)) → List ℕ → Result ℕ Reason
new_name names word =
    if not (is_name word) then Err BadName else elim (place_of names word) [
      | None ↦ Ok (length names)
      | Some place ↦ Err NameTaken
    ]

-- the number of a name that an earlier line defines
unfoldable pub known_name : (names : List (List ℕ)) → List ℕ → Result ℕ Reason
known_name names word =
    if not (is_name word) then Err BadName else elim (place_of names word) [
      | None ↦ Err UnknownName
      | Some place ↦ Ok place
    ]

-- 1 to 20 decimal digits with a value below 2^64
unfoldable pub number_of : List ℕ → Result ℕ Reason
number_of word =
    if nat_le 1 (length word) && nat_le (length word) 20 && list_all is_ascii_digit word
    && nat_lt (digits_value 10 word) (2 ^ 64)
    then Ok (digits_value 10 word) else Err BadNumber

-- the encoding that a word names
unfoldable pub encoding_of : List ℕ → Result Encoding Reason
encoding_of word =
    if bytes_eq word (codes "utf8") then Ok Utf8
    else (if bytes_eq word (codes "utf16") then Ok Utf16
    else (if bytes_eq word (codes "utf16le") then Ok Utf16Le
    else (if bytes_eq word (codes "utf16be") then Ok Utf16Be
    else (if bytes_eq word (codes "latin1") then Ok Latin1
    else Err BadEncoding))))

-- 1 to 6 hexadecimal digits of either case whose value is a scalar value
unfoldable pub code_point_of : List ℕ → Result ℕ Reason
code_point_of word =
    if nat_le 1 (length word) && nat_le (length word) 6 && list_all is_ascii_hexdigit word
    && all_scalars (digits_value 16 word ∷ [])
    then Ok (digits_value 16 word) else Err BadCodePoint

-- the code points of words, up to the first that is none
unfoldable pub code_points_of : List (List ℕ) → Result (List ℕ) Reason
code_points_of [] = Ok []
code_points_of (word ∷ words) = do
  code ← code_point_of word
  rest ← code_points_of words
  Ok (code ∷ rest)
