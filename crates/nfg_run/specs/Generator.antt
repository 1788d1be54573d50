-- The generator of a script and two files (this project's own).
use Rattle.std.specs.Prelude.{ℕ, zero, suc, ◌+◌, ◌*◌, ◌/◌, ◌%◌, List, [], ◌∷◌, ◌++◌, flat_map, slice_index_or, codes}
use Rattle.nfg_decode.specs.declared.encoding.Encoding.TheVariants.{Utf8, Utf16}
use Rattle.nfg_decode.specs.Encoding.{encode}
use Rattle.nfg_run.specs.CommandLine.{line_feed}

-- the number after x, where the first is the seed
abbrev pub next_number : ℕ → ℕ
next_number x = (1103515245 * x + 12345) % 2147483648

-- the number after so many steps
abbrev pub number_after : (seed : ℕ) → (steps : ℕ) → ℕ
number_after seed zero = seed
number_after seed (suc steps) = next_number (number_after seed steps)

-- a number draws one of 16 spellings
abbrev pub draw_of : ℕ → ℕ
draw_of x = x / 65536 % 16

-- what the numbers of so many steps draw, in order
abbrev pub draws : (seed : ℕ) → (steps : ℕ) → List ℕ
draws seed zero = []
draws seed (suc steps) = draws seed steps ++ draw_of (number_after seed (suc steps)) ∷ []

-- the code points of each draw in the first file
abbrev pub first_spellings : List (List ℕ)
first_spellings =
    (0x61 ∷ 0x62 ∷ 0x63 ∷ 0x20 ∷ [])
    ∷ (0xE9 ∷ [])
    ∷ (0xAC01 ∷ [])
    ∷ (0xD ∷ 0xA ∷ [])
    ∷ (0x1F468 ∷ 0x200D ∷ 0x1F469 ∷ 0x200D ∷ 0x1F467 ∷ [])
    ∷ (0x1F1E6 ∷ 0x1F1E7 ∷ [])
    ∷ (0x1F1E6 ∷ [])
    ∷ (0x915 ∷ 0x94D ∷ 0x937 ∷ 0x93F ∷ [])
    ∷ (0x958 ∷ [])
    ∷ (0x71 ∷ 0x323 ∷ 0x307 ∷ [])
    ∷ (0x2194 ∷ 0x338 ∷ [])
    ∷ (0x301 ∷ [])
    ∷ (0x1100 ∷ [])
    ∷ (0x1161 ∷ [])
    ∷ (0x939 ∷ 0x93F ∷ [])
    ∷ (0x2E ∷ 0x20 ∷ [])
    ∷ []

-- the code points of each draw in the second file, which are canonically equivalent to those in the first
abbrev pub second_spellings : List (List ℕ)
second_spellings =
    (0x61 ∷ 0x62 ∷ 0x63 ∷ 0x20 ∷ [])
    ∷ (0x65 ∷ 0x301 ∷ [])
    ∷ (0x1100 ∷ 0x1161 ∷ 0x11A8 ∷ [])
    ∷ (0xD ∷ 0xA ∷ [])
    ∷ (0x1F468 ∷ 0x200D ∷ 0x1F469 ∷ 0x200D ∷ 0x1F467 ∷ [])
    ∷ (0x1F1E6 ∷ 0x1F1E7 ∷ [])
    ∷ (0x1F1E6 ∷ [])
    ∷ (0x915 ∷ 0x94D ∷ 0x937 ∷ 0x93F ∷ [])
    ∷ (0x915 ∷ 0x93C ∷ [])
    ∷ (0x71 ∷ 0x307 ∷ 0x323 ∷ [])
    ∷ (0x21AE ∷ [])
    ∷ (0x301 ∷ [])
    ∷ (0x1100 ∷ [])
    ∷ (0x1161 ∷ [])
    ∷ (0x939 ∷ 0x93F ∷ [])
    ∷ (0x2E ∷ 0x20 ∷ [])
    ∷ []

abbrev pub first_spelling : (draw : ℕ) → List ℕ
first_spelling draw = slice_index_or first_spellings draw []

abbrev pub second_spelling : (draw : ℕ) → List ℕ
second_spelling draw = slice_index_or second_spellings draw []

-- the text of the first file, and of the second
abbrev pub first_text : (seed count : ℕ) → List ℕ
first_text seed count = flat_map first_spelling (draws seed count)

abbrev pub second_text : (seed count : ℕ) → List ℕ
second_text seed count = flat_map second_spelling (draws seed count)

-- the first file is UTF-8
abbrev pub first_file : (seed count : ℕ) → List ℕ
first_file seed count = encode Utf8 (first_text seed count)

-- the second file is big-endian UTF-16 after the mark FE FF
abbrev pub second_file : (seed count : ℕ) → List ℕ
second_file seed count = encode Utf16 (second_text seed count)

-- the lines of the script
abbrev pub script_lines : List (List ℕ)
script_lines =
    codes "load a utf8 a"
    ∷ codes "load b utf16 b"
    ∷ codes "text p 71 307 323"
    ∷ codes "eq a b"
    ∷ codes "len a"
    ∷ codes "cat c a b"
    ∷ codes "len c"
    ∷ codes "shape c"
    ∷ codes "rep d a 2"
    ∷ codes "eq c d"
    ∷ codes "find c p 0"
    ∷ codes "rfind c p 18446744073709551615"
    ∷ codes "cmp a c"
    ∷ []

-- the script, with a line feed behind each line
abbrev pub script_text : List ℕ
script_text = flat_map (λ line. line ++ line_feed ∷ []) script_lines
