-- Worked rows of the definitions.
use Rattle.std.specs.Prelude.{◌≡◌, [], ◌∷◌, refl, Ok, Err}
use Rattle.std.specs.Str.{chars, is_utf8}
use Rattle.std.specs.Str.Lossy.{utf8_valid_len}
use Rattle.std.specs.Char.{encode_utf8}
use Rattle.nfg_decode.specs.declared.encoding.Encoding.TheVariants.{Utf8, Utf16, Utf16Le, Utf16Be, Latin1}
use Rattle.nfg_decode.specs.Utf8.{decode_utf8}
use Rattle.nfg_decode.specs.Utf16.{decode_utf16, decode_marked}
use Rattle.nfg_decode.specs.Encoding.{decode, decoded_prefix, encode}

-- UTF-8: a sequence that the end cuts, a surrogate, three bytes that are one code point
utf8_cut : decode Utf8 (0x61 ∷ 0xE2 ∷ 0x82 ∷ []) ≡ Err 1
unfolding decode decode_utf8 utf8_valid_len is_utf8 chars encode_utf8
utf8_cut = refl

utf8_cut_prefix : decoded_prefix Utf8 (0x61 ∷ 0xE2 ∷ 0x82 ∷ []) ≡ 0x61 ∷ []
unfolding decoded_prefix decode decode_utf8 utf8_valid_len is_utf8 chars encode_utf8
utf8_cut_prefix = refl

utf8_surrogate : decode Utf8 (0xED ∷ 0xA0 ∷ 0x80 ∷ []) ≡ Err 0
unfolding decode decode_utf8 utf8_valid_len is_utf8 chars encode_utf8
utf8_surrogate = refl

utf8_euro : decode Utf8 (0xE2 ∷ 0x82 ∷ 0xAC ∷ []) ≡ Ok (0x20AC ∷ [])
unfolding decode decode_utf8 utf8_valid_len is_utf8 chars encode_utf8
utf8_euro = refl

-- UTF-16: a pair, half a pair, the two marks, no mark, one byte
pair : decode Utf16Le (0x3D ∷ 0xD8 ∷ 0x00 ∷ 0xDE ∷ []) ≡ Ok (0x1F600 ∷ [])
unfolding decode decode_utf16
pair = refl

half_pair : decode Utf16Le (0x3D ∷ 0xD8 ∷ 0x00 ∷ []) ≡ Err 0
unfolding decode decode_utf16
half_pair = refl

unpaired_low : decode Utf16Be (0x00 ∷ 0x41 ∷ 0xDC ∷ 0x00 ∷ []) ≡ Err 2
unfolding decode decode_utf16
unpaired_low = refl

odd_byte : decode Utf16Be (0x00 ∷ 0x41 ∷ 0x00 ∷ []) ≡ Err 2
unfolding decode decode_utf16
odd_byte = refl

little_mark : decode Utf16 (0xFF ∷ 0xFE ∷ 0x41 ∷ 0x00 ∷ []) ≡ Ok (0x41 ∷ [])
unfolding decode decode_marked decode_utf16
little_mark = refl

big_mark : decode Utf16 (0xFE ∷ 0xFF ∷ 0x00 ∷ 0x41 ∷ []) ≡ Ok (0x41 ∷ [])
unfolding decode decode_marked decode_utf16
big_mark = refl

no_mark : decode Utf16 (0x00 ∷ 0x41 ∷ []) ≡ Ok (0x41 ∷ [])
unfolding decode decode_marked decode_utf16
no_mark = refl

-- places count the mark
after_the_mark : decode Utf16 (0xFF ∷ 0xFE ∷ 0x41 ∷ []) ≡ Err 2
unfolding decode decode_marked decode_utf16
after_the_mark = refl

one_byte : decode Utf16 (0xFE ∷ []) ≡ Err 0
unfolding decode decode_marked decode_utf16
one_byte = refl

latin1 : decode Latin1 (0x0D ∷ 0x0A ∷ 0xE9 ∷ []) ≡ Ok (0x0D ∷ 0x0A ∷ 0xE9 ∷ [])
unfolding decode
latin1 = refl

-- `E9 D A` in three encodings, and the empty text in UTF-16
encoded_utf8 : encode Utf8 (0xE9 ∷ 0xD ∷ 0xA ∷ []) ≡ 0xC3 ∷ 0xA9 ∷ 0x0D ∷ 0x0A ∷ []
unfolding encode encode_utf8
encoded_utf8 = refl

encoded_utf16 : encode Utf16 (0xE9 ∷ 0xD ∷ 0xA ∷ []) ≡ 0xFE ∷ 0xFF ∷ 0x00 ∷ 0xE9 ∷ 0x00 ∷ 0x0D ∷ 0x00 ∷ 0x0A ∷ []
unfolding encode
encoded_utf16 = refl

encoded_latin1 : encode Latin1 (0xE9 ∷ 0xD ∷ 0xA ∷ []) ≡ 0xE9 ∷ 0x0D ∷ 0x0A ∷ []
unfolding encode
encoded_latin1 = refl

encoded_pair : encode Utf16Le (0x1F600 ∷ []) ≡ 0x3D ∷ 0xD8 ∷ 0x00 ∷ 0xDE ∷ []
unfolding encode
encoded_pair = refl

encoded_empty : encode Utf16 [] ≡ 0xFE ∷ 0xFF ∷ []
unfolding encode
encoded_empty = refl
