-- The pieces of a string (this project's own): the length, the repetitions and the width of each strand.
use Rattle.std.specs.Prelude.{ℕ, zero, suc, ◌+◌, ◌-◌, ◌*◌, ◌/◌, ℤ, Bool, cond, nat_lt, min, List, [], ◌∷◌, ◌++◌, length}
use Rattle.std.specs.List.{list_all}
use Rattle.nfg_block.specs.Lanes.{is_narrow_grapheme}
use Rattle.nfg_strand.specs.declared.piece.Piece.{Piece}

-- whether a list fits graphemes of 8 bits
abbrev pub is_narrow : List ℤ → Bool
is_narrow xs = list_all is_narrow_grapheme xs

-- the piece of that length, repetitions and width, or none where it would hold nothing
abbrev pub piece_or_none : ℕ → ℕ → Bool → List Piece
piece_or_none zero times narrow = []
piece_or_none (suc m) zero narrow = []
piece_or_none (suc m) (suc t) narrow = record { length = suc m; times = suc t; narrow = narrow } ∷ []

-- the flat piece of a list: the list once
abbrev pub flat_piece : List ℤ → List Piece
flat_piece xs = piece_or_none (length xs) 1 (is_narrow xs)

-- how many graphemes a piece covers
abbrev pub span : Piece → ℕ
span p = p.length * p.times

-- the part [x, y) of a piece, counted from the piece's start. The whole repetitions in it are those
-- from `first`, x divided by the length and rounded up, to `last`, y divided and rounded down.
abbrev pub clipped_piece : Piece → ℕ → ℕ → List Piece
clipped_piece p x y =
    let first = (x + (p.length - 1)) / p.length in
    let last = y / p.length in
    cond (nat_lt last first)
    (piece_or_none (y - x) 1 p.narrow)
    (piece_or_none (first * p.length - x) 1 p.narrow
    ++ (piece_or_none p.length (last - first) p.narrow
    ++ piece_or_none (y - last * p.length) 1 p.narrow))

-- the clip of pieces to [start, end): each piece gives the part of it that lies inside
abbrev pub clipped : List Piece → ℕ → ℕ → List Piece
clipped [] start end = []
clipped (p ∷ ps) start end =
    clipped_piece p (min start (span p)) (min end (span p)) ++ clipped ps (start - span p) (end - span p)

-- the pieces of two strings in a row
abbrev pub joined : List Piece → List Piece → List Piece
joined ps qs = ps ++ qs

-- the pieces of a list, in pieces ps, that stands n times: one piece keeps its unit, and several become one unit
-- over a new block
abbrev pub repeat_pieces : List ℤ → List Piece → ℕ → List Piece
repeat_pieces xs ps zero = []
repeat_pieces xs [] (suc n) = []
repeat_pieces xs (p ∷ ps) (suc zero) = p ∷ ps
repeat_pieces xs (p ∷ []) (suc (suc n)) = record p { times = p.times * suc (suc n) } ∷ []
repeat_pieces xs (p ∷ q ∷ ps) (suc (suc n)) = record { length = length xs; times = suc (suc n); narrow = is_narrow xs } ∷ []

-- the rule of 64: a list that would have more pieces has its flat piece
abbrev pub at_most_64 : List ℤ → List Piece → List Piece
at_most_64 xs ps = cond (nat_lt 64 (length ps)) (flat_piece xs) ps
