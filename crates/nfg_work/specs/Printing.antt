-- What the commands print (this project's own).
use Rattle.std.specs.Prelude.{ℕ, Bool, true, List, [], ◌∷◌, ◌++◌, map, length, codes, Option, Some, None, if◌then◌else◌}
use Rattle.std.specs.List.{join_with_byte, flat_map}
use Rattle.std.specs.Fmt.{decimal, digits}
use Rattle.std.specs.declared.cmp.Ordering.{Ordering}
use Rattle.std.specs.declared.cmp.Ordering.TheVariants.{Less, Equal, Greater}
use Rattle.nfg_strand.specs.declared.piece.Piece.{Piece}

abbrev pub line_feed : ℕ
line_feed = 10

-- the code points in upper-case hexadecimal, `+` between two
abbrev pub shown_cluster : List ℕ → List ℕ
shown_cluster cluster = join_with_byte 43 (map (digits 16 true) cluster)

-- the clusters, a space between two
abbrev pub shown : List (List ℕ) → List ℕ
shown clusters = join_with_byte 32 (map shown_cluster clusters)

-- ` LxT/8` or ` LxT/32`: the length, the repetitions and the bits of a grapheme
abbrev pub piece_text : Piece → List ℕ
piece_text piece =
    codes " " ++ decimal piece.length ++ codes "x" ++ decimal piece.times
    ++ (if piece.narrow then codes "/8" else codes "/32")

-- the number of pieces, and then each of them
abbrev pub shape : List Piece → List ℕ
shape pieces = codes "strands " ++ decimal (length pieces) ++ flat_map piece_text pieces

-- the place, or `none`
abbrev pub place_text : Option ℕ → List ℕ
place_text (Some place) = decimal place
place_text None = codes "none"

-- `true` or `false`
abbrev pub truth_text : Bool → List ℕ
truth_text holds = if holds then codes "true" else codes "false"

-- `less`, `equal` or `greater`
abbrev pub order_text : Ordering → List ℕ
order_text Less = codes "less"
order_text Equal = codes "equal"
order_text Greater = codes "greater"

-- the text as a line
abbrev pub line_of : List ℕ → List ℕ
line_of text = text ++ line_feed ∷ []
