-- UTF-8 (The Unicode Standard, section 3.9, Table 3-7), in the words of std.
use Rattle.std.specs.Prelude.{◌≡◌, ℕ, ◌≤◌, Bool, ◌&&◌, nat_lt, not, List, [], ◌∷◌, ◌++◌, length, drop, ◌==◌, if◌then◌else◌, Ok, Err, IsUtf8, chars}
use Rattle.std.specs.Str.Lossy.{utf8_valid_len}
use Rattle.nfg_decode.specs.Decoded.{Decoded}

-- The bytes are well-formed where their longest well-formed front is all of them. If they are not,
-- the place is the length of that front.
unfoldable pub decode_utf8 : List ℕ → Decoded
decode_utf8 b = if utf8_valid_len b == length b then Ok (chars b) else Err (utf8_valid_len b)

-- the text begins with these code points, in so many bytes
pub record IsFront (text : List ℕ) (len : ℕ) (front : List ℕ) : Type 0 where
  pub within : len ≤ length text
  pub rest : IsUtf8 (drop len text)
  pub codes : chars text ≡ front ++ chars (drop len text)

-- the text begins with this code point, in so many bytes
abbrev pub IsFirst : List ℕ → ℕ → ℕ → Type 0
IsFirst text len code = IsFront text len (code ∷ [])

-- whether a byte of a text begins a sequence of three bytes
abbrev pub is_three_lead : ℕ → Bool
is_three_lead a = not (nat_lt a 0xE0) && nat_lt a 0xF0
