-- Worked rows of pieces. A piece is written here as its length, its repetitions and its bits: 3x4/8.
use Rattle.std.proofs.Common.{◌≡◌, ℕ, true, false, List, [], ◌∷◌, ◌++◌, replicate, refl}
use Rattle.std.specs.Prelude.{ℤ, pos, negsuc}
use Rattle.nfg_strand.specs.declared.piece.Piece.{Piece}
use Rattle.nfg_strand.specs.Pieces.{flat_piece, clipped, joined, repeat_pieces, at_most_64, span}
use Rattle.nfg_strand.specs.Strand.{Repetition, graphemes, pieces}

abbrev narrow : ℕ → ℕ → Piece
narrow m t = record { length = m; times = t; narrow = true }

abbrev wide : ℕ → ℕ → Piece
wide m t = record { length = m; times = t; narrow = false }

-- a, b and c
abbrev letters : List ℤ
letters = pos 97 ∷ pos 98 ∷ pos 99 ∷ []

-- the empty list has no piece
flat_none : flat_piece [] ≡ []
flat_none = refl

flat_ascii : flat_piece letters ≡ narrow 3 1 ∷ []
flat_ascii = refl

-- CR LF is narrow
flat_line_end : flat_piece (negsuc 0 ∷ []) ≡ narrow 1 1 ∷ []
flat_line_end = refl

-- one grapheme past ASCII makes the whole piece wide
flat_wide : flat_piece (pos 97 ∷ pos 233 ∷ []) ≡ wide 2 1 ∷ []
flat_wide = refl

flat_synthetic : flat_piece (negsuc 1 ∷ pos 8622 ∷ []) ≡ wide 2 1 ∷ []
flat_synthetic = refl

-- 3x4/8 to [1, 11): the end of a repetition, two whole ones, the start of one
clip_inside : clipped (narrow 3 4 ∷ []) 1 11 ≡ narrow 2 1 ∷ narrow 3 2 ∷ narrow 2 1 ∷ []
clip_inside = refl

clip_all : clipped (narrow 3 4 ∷ []) 0 12 ≡ narrow 3 4 ∷ []
clip_all = refl

-- within one repetition
clip_one : clipped (narrow 3 4 ∷ []) 1 2 ≡ narrow 1 1 ∷ []
clip_one = refl

-- over the border of two repetitions, with no whole one
clip_border : clipped (narrow 3 4 ∷ []) 2 4 ≡ narrow 1 1 ∷ narrow 1 1 ∷ []
clip_border = refl

-- whole repetitions alone
clip_whole : clipped (narrow 3 4 ∷ []) 3 9 ≡ narrow 3 2 ∷ []
clip_whole = refl

clip_nothing : clipped (narrow 3 4 ∷ []) 4 4 ≡ []
clip_nothing = refl

-- a clip keeps the width of each piece
clip_pieces : clipped (narrow 2 1 ∷ wide 3 2 ∷ narrow 5 1 ∷ []) 1 6 ≡ narrow 1 1 ∷ wide 3 1 ∷ wide 1 1 ∷ []
clip_pieces = refl

join : joined (narrow 3 1 ∷ []) (wide 1 2 ∷ narrow 3 1 ∷ []) ≡ narrow 3 1 ∷ wide 1 2 ∷ narrow 3 1 ∷ []
join = refl

never : repeat_pieces letters (narrow 3 1 ∷ []) 0 ≡ []
never = refl

once : repeat_pieces letters (narrow 1 1 ∷ narrow 2 1 ∷ []) 1 ≡ narrow 1 1 ∷ narrow 2 1 ∷ []
once = refl

-- one piece, repeated again
again : repeat_pieces letters (narrow 3 4 ∷ []) 2 ≡ narrow 3 8 ∷ []
again = refl

-- more pieces become one, as wide as the list is
more : repeat_pieces letters (wide 1 1 ∷ narrow 2 1 ∷ []) 5 ≡ narrow 3 5 ∷ []
more = refl

-- 64 pieces stay, and 65 become one
sixty_four : at_most_64 (replicate 64 (pos 97)) (replicate 64 (narrow 1 1)) ≡ replicate 64 (narrow 1 1)
sixty_four = refl

sixty_five : at_most_64 (replicate 65 (pos 97)) (replicate 65 (narrow 1 1)) ≡ narrow 65 1 ∷ []
sixty_five = refl

covered : span (narrow 3 4) ≡ 12
covered = refl

-- strands, as graphemes and as pieces
abbrev strands : List Repetition
strands = record { unit = letters; times = 2; narrow = true } ∷ record { unit = pos 233 ∷ []; times = 1; narrow = false } ∷ []

in_a_row : graphemes strands ≡ letters ++ (letters ++ pos 233 ∷ [])
in_a_row = refl

in_pieces : pieces strands ≡ narrow 3 2 ∷ wide 1 1 ∷ []
in_pieces = refl
