-- Decoding and encoding whole lists, in each encoding (The Unicode Standard, 3.9 and 3.10; ISO/IEC 8859-1).
use Rattle.std.specs.Prelude.{◌≡◌, ℕ, zero, suc, ◌<◌, Bool, true, List, [], ◌∷◌, ◌++◌, length, take, nat_lt, if◌then◌else◌, Ok, Err, is_ok, All, flat_map, encode_utf8}
use Rattle.std.specs.Result.{result_unwrap_or}
use Rattle.std.specs.Char.Escape.{encode_utf16}
use Rattle.nfg_decode.specs.declared.encoding.Encoding.{Encoding}
use Rattle.nfg_decode.specs.declared.encoding.Encoding.TheVariants.{Utf8, Utf16, Utf16Le, Utf16Be, Latin1}
use Rattle.nfg_decode.specs.declared.utf16.ByteOrder.TheVariants.{Little, Big}
use Rattle.nfg_decode.specs.Decoded.{Decoded}
use Rattle.nfg_decode.specs.Utf8.{decode_utf8}
use Rattle.nfg_decode.specs.Utf16.{unit_bytes, mark, decode_utf16, decode_marked}

-- the text that the bytes spell, or the first malformed place
unfoldable pub decode : Encoding → List ℕ → Decoded
decode Utf8 b = decode_utf8 b
decode Utf16 b = decode_marked b
decode Utf16Le b = decode_utf16 Little b
decode Utf16Be b = decode_utf16 Big b
decode Latin1 b = Ok b

-- the greatest length up to n of a front of b that is a text
abbrev pub text_len_up_to : Encoding → List ℕ → ℕ → ℕ
text_len_up_to e b zero = 0
text_len_up_to e b (suc n) = if is_ok (decode e (take (suc n) b)) then suc n else text_len_up_to e b n

-- the text of the longest front of b that is one
unfoldable pub decoded_prefix : Encoding → List ℕ → List ℕ
decoded_prefix e b = result_unwrap_or (decode e (take (text_len_up_to e b (length b)) b)) []

-- each number is a byte
abbrev pub AreBytes : List ℕ → Type 0
AreBytes b = All (λ x. x < 256) b

-- whatever bytes follow b, they are malformed at p
abbrev pub IsAlreadyMalformed : Encoding → List ℕ → ℕ → Type 0
IsAlreadyMalformed e b p = (more : List ℕ) → AreBytes more → decode e (b ++ more) ≡ Err p

-- the encoding has the code point: Latin-1 ends at FF
abbrev pub has_code : Encoding → ℕ → Bool
has_code Utf8 c = true
has_code Utf16 c = true
has_code Utf16Le c = true
has_code Utf16Be c = true
has_code Latin1 c = nat_lt c 256

-- the bytes of a code point
abbrev pub encode_code : Encoding → ℕ → List ℕ
encode_code Utf8 c = encode_utf8 c
encode_code Utf16 c = flat_map (unit_bytes Big) (encode_utf16 c)
encode_code Utf16Le c = flat_map (unit_bytes Little) (encode_utf16 c)
encode_code Utf16Be c = flat_map (unit_bytes Big) (encode_utf16 c)
encode_code Latin1 c = c ∷ []

-- what stands before the text: `Utf16` writes the big-endian mark
abbrev pub text_start : Encoding → List ℕ
text_start Utf8 = []
text_start Utf16 = mark Big
text_start Utf16Le = []
text_start Utf16Be = []
text_start Latin1 = []

-- the bytes of a text
unfoldable pub encode : Encoding → List ℕ → List ℕ
encode e t = text_start e ++ flat_map (encode_code e) t
