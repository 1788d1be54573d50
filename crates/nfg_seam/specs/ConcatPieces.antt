-- The pieces that concatenation and repetition leave, over plain lists of clusters (this project's own).
use Rattle.std.specs.Prelude.{ℕ, zero, suc, ◌-◌, ◌*◌, Bool, List, [], ◌∷◌, ◌++◌, length, bytes_eq, if◌then◌else◌}
use Rattle.std.specs.List.{repeat}
use Rattle.std.specs.Cmp.Lexicographic.{pointwise}
use Rattle.nfg_text.specs.Operations.{concatenation, repetition}
use Rattle.nfg_text.specs.Splice.{Splice, splice}
use Rattle.nfg_strand.specs.declared.piece.Piece.{Piece}
use Rattle.nfg_strand.specs.Pieces.{piece_or_none}
use Rattle.nfg_seam.specs.ClusterPieces.{is_narrow, flat_piece, at_most_64, clip_of}

-- the clip of the left side's pieces to what is kept of it, the flat piece of what is new, and the clip of the right
-- side's pieces to what is kept of that, under the rule of 64
abbrev pub spliced_pieces : (a b : List (List ℕ)) → (of_a of_b : List Piece) → Splice → List Piece
spliced_pieces a b of_a of_b splice =
    at_most_64 (concatenation a b)
    (clip_of a of_a 0 splice.front
    ++ (flat_piece splice.middle
    ++ clip_of b of_b (length b - splice.back) (length b)))

-- the pieces of a concatenation
abbrev pub concat_pieces : (a b : List (List ℕ)) → (of_a of_b : List Piece) → List Piece
concat_pieces a b of_a of_b = spliced_pieces a b of_a of_b (splice a b)

-- the one piece of clusters that stand so often in a row: a list in one piece keeps its unit, and else the whole list
-- is the unit
abbrev pub unit_pieces : List (List ℕ) → List Piece → (count : ℕ) → List Piece
unit_pieces list (piece ∷ []) count = record piece { times = piece.times * count } ∷ []
unit_pieces list pieces count = piece_or_none (length list) count (is_narrow list)

-- the text, joined so often, has the list of clusters so often in a row
abbrev pub comes_again : List (List ℕ) → (count : ℕ) → Bool
comes_again list count = pointwise bytes_eq (repetition list count) (repeat count list)

-- the pieces of a repetition: none, those of the list, one piece where the list comes again, and else the flat piece
abbrev pub repetition_pieces : List (List ℕ) → List Piece → (count : ℕ) → List Piece
repetition_pieces list pieces zero = []
repetition_pieces list pieces (suc zero) = pieces
repetition_pieces list pieces (suc (suc more)) =
    if comes_again list (suc (suc more)) then unit_pieces list pieces (suc (suc more))
    else flat_piece (repetition list (suc (suc more)))
