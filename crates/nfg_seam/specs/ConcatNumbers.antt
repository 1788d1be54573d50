-- What a concatenation keeps of the numbers of both sides (this project's own).
use Rattle.std.specs.Prelude.{◌≡◌, ◌⊎◌, ℕ, ◌+◌, ◌-◌, ℤ, List, ◌++◌, length, take, drop, min}
use Rattle.std.specs.List.{common_prefix_len, slice_range}
use Rattle.std.specs.Ordering.{int_eq}
use Rattle.nfg_lanes.specs.Lanes.{common_suffix_len}
use Rattle.nfg_strand.specs.declared.piece.Piece.{Piece}
use Rattle.nfg_strand.specs.Pieces.{flat_piece, clipped, at_most_64}
use Rattle.nfg_strand.specs.Value.{Rope}
use Rattle.nfg_seam.specs.declared.error.SeamError.{SeamError}
use Rattle.nfg_seam.specs.declared.error.SeamError.TheVariants.{TooLong, ClusterLong, RowFull, NoPortion, OutOfMemory}

-- how many numbers of the middle are those of a from place `left` on
abbrev pub front_of : (a : List ℤ) (left : ℕ) (middle : List ℤ) → ℕ
front_of a left middle = common_prefix_len int_eq (drop left a) middle

-- how many of its others are those of b before place `right`
abbrev pub back_of : (b : List ℤ) (right : ℕ) (middle : List ℤ) (front : ℕ) → ℕ
back_of b right middle front = min (common_suffix_len int_eq (take right b) middle) (length middle - front)

-- what stands between
abbrev pub between : (middle : List ℤ) (front back : ℕ) → List ℤ
between middle front back = take (length middle - front - back) (drop front middle)

-- the graphemes of a before the front's end, those between, and those of b from the back's start on
abbrev pub spliced_numbers : (a b middle : List ℤ) (left right front back : ℕ) → List ℤ
spliced_numbers a b middle left right front back =
    slice_range a 0 (left + front) ++ (between middle front back ++ slice_range b (right - back) (length b))

-- and their pieces
abbrev pub numbers_pieces : (a b : Rope) (middle : List ℤ) (left right front back : ℕ) → List Piece
numbers_pieces a b middle left right front back =
    at_most_64 (spliced_numbers a.graphemes b.graphemes middle left right front back)
    (at_most_64 (slice_range a.graphemes 0 (left + front)) (clipped a.pieces 0 (left + front))
    ++ (flat_piece (between middle front back)
    ++ at_most_64 (slice_range b.graphemes (right - back) (length b.graphemes)) (clipped b.pieces (right - back) (length b.graphemes))))

-- a refusal at the clusters of a seam is one of the whole: a long cluster is counted from the start
abbrev pub IsCountedFrom : (left : ℕ) → (error result : SeamError) → Type 0
IsCountedFrom left TooLong result = result ≡ TooLong
IsCountedFrom left (ClusterLong at) result = (result ≡ ClusterLong (left + at)) ⊎ (result ≡ OutOfMemory)
IsCountedFrom left RowFull result = result ≡ RowFull
IsCountedFrom left NoPortion result = result ≡ NoPortion
IsCountedFrom left OutOfMemory result = result ≡ OutOfMemory
