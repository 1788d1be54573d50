-- UTF-16, UTF-16LE and UTF-16BE (The Unicode Standard, sections 3.9 and 3.10).
use Rattle.std.specs.Prelude.{ℕ, ◌+◌, ◌*◌, ◌/◌, ◌%◌, Bool, true, false, not, ◌&&◌, ◌||◌, List, [], ◌∷◌, drop, nat_eq, if◌then◌else◌, Ok, Err}
use Rattle.std.specs.List.{starts_with}
use Rattle.std.specs.Int.{is_in_range}
use Rattle.std.specs.Char.Utf16.{is_high_surrogate, is_low_surrogate, surrogate_pair_char}
use Rattle.nfg_decode.specs.declared.utf16.ByteOrder.{ByteOrder}
use Rattle.nfg_decode.specs.declared.utf16.ByteOrder.TheVariants.{Little, Big}
use Rattle.nfg_decode.specs.Decoded.{Decoded, after_text}

-- the 16-bit unit of two bytes
abbrev pub unit : ByteOrder → ℕ → ℕ → ℕ
unit Little x y = x + y * 256
unit Big x y = x * 256 + y

-- the two bytes of a unit
abbrev pub unit_bytes : ByteOrder → ℕ → List ℕ
unit_bytes Little u = u % 256 ∷ u / 256 ∷ []
unit_bytes Big u = u / 256 ∷ u % 256 ∷ []

-- a unit from D800 to DFFF
abbrev pub is_surrogate : ℕ → Bool
is_surrogate u = is_high_surrogate u || is_low_surrogate u

-- a unit that is in no pair, and then what follows it: a surrogate is malformed, and any other unit
-- is its own code point
abbrev pub after_lone_unit : ℕ → Decoded → Decoded
after_lone_unit u rest = if is_surrogate u then Err 0 else after_text (u ∷ []) 2 rest

-- The units of the bytes from left to right. A high surrogate and a low one behind it are a pair,
-- which is one code point. A byte that is left over is malformed.
unfoldable pub decode_utf16 : ByteOrder → List ℕ → Decoded
decode_utf16 o [] = Ok []
decode_utf16 o (x ∷ []) = Err 0
decode_utf16 o (x ∷ y ∷ []) = after_lone_unit (unit o x y) (Ok [])
decode_utf16 o (x ∷ y ∷ z ∷ []) = after_lone_unit (unit o x y) (Err 0)
decode_utf16 o (x ∷ y ∷ z ∷ w ∷ b) =
    let u = unit o x y in
    let v = unit o z w in
    if is_high_surrogate u && is_low_surrogate v then after_text (surrogate_pair_char u v ∷ []) 4 (decode_utf16 o b)
    else after_lone_unit u (decode_utf16 o (z ∷ w ∷ b))

-- a low surrogate's high byte is DC to DF
abbrev pub is_low_byte : ℕ → Bool
is_low_byte x = is_in_range 0xDC 0xDF x

-- the first byte of a unit alone says that the unit is a low surrogate
abbrev pub is_surely_low : ByteOrder → ℕ → Bool
is_surely_low Little x = false
is_surely_low Big x = is_low_byte x

-- or leaves it open whether it is one
abbrev pub may_be_low : ByteOrder → ℕ → Bool
may_be_low Little x = true
may_be_low Big x = is_low_byte x

-- Of bytes that no sequence begins: whether none can begin them, whatever bytes follow. A low
-- surrogate stands first, or a high one and no low one behind it.
abbrev pub is_hopeless : ByteOrder → List ℕ → Bool
is_hopeless o [] = false
is_hopeless o (x ∷ []) = is_surely_low o x
is_hopeless o (x ∷ y ∷ []) = is_low_surrogate (unit o x y)
is_hopeless o (x ∷ y ∷ z ∷ []) = is_low_surrogate (unit o x y) || not (may_be_low o z)
is_hopeless o (x ∷ y ∷ z ∷ w ∷ b) = true

-- the byte order mark U+FEFF, in each byte order
abbrev pub mark : ByteOrder → List ℕ
mark o = unit_bytes o 0xFEFF

-- The mark gives the order, and is no part of the text. Without one the high byte comes first.
unfoldable pub decode_marked : List ℕ → Decoded
decode_marked b = if starts_with nat_eq b (mark Big) then after_text [] 2 (decode_utf16 Big (drop 2 b))
    else (if starts_with nat_eq b (mark Little) then after_text [] 2 (decode_utf16 Little (drop 2 b))
    else decode_utf16 Big b)
