-- The pieces of plain lists of clusters (this project's own).
use Rattle.std.specs.Prelude.{ℕ, Bool, false, ◌||◌, nat_lt, List, [], ◌∷◌, length, bytes_eq, if◌then◌else◌}
use Rattle.std.specs.List.{list_all, slice_range}
use Rattle.nfg_strand.specs.declared.piece.Piece.{Piece}
use Rattle.nfg_strand.specs.Pieces.{piece_or_none, clipped}

-- CR LF
abbrev pub is_line_end : List ℕ → Bool
is_line_end cluster = bytes_eq cluster (13 ∷ 10 ∷ [])

-- one code point below 80 (hexadecimal)
abbrev pub is_ascii : List ℕ → Bool
is_ascii (c ∷ []) = nat_lt c 128
is_ascii _ = false

-- each cluster is CR LF or one code point below 80 (hexadecimal), so that it fits 8 bits
abbrev pub is_narrow : List (List ℕ) → Bool
is_narrow clusters = list_all (λ cluster. is_line_end cluster || is_ascii cluster) clusters

-- the clusters in one piece, or in none where there are none
abbrev pub flat_piece : List (List ℕ) → List Piece
flat_piece clusters = piece_or_none (length clusters) 1 (is_narrow clusters)

-- the rule of 64: clusters in more pieces than 64 are kept in their flat piece
abbrev pub at_most_64 : List (List ℕ) → List Piece → List Piece
at_most_64 clusters pieces = if nat_lt 64 (length pieces) then flat_piece clusters else pieces

-- the clip of the pieces of these clusters to [start, end), under the rule of 64
abbrev pub clip_of : List (List ℕ) → List Piece → (start end : ℕ) → List Piece
clip_of clusters pieces start end = at_most_64 (slice_range clusters start end) (clipped pieces start end)
