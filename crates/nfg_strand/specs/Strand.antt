-- Strands: a part of a block, repeated (this project's own, after the strings of MoarVM).
use Rattle.std.specs.Prelude.{ℕ, ℤ, ◌-◌, ◌*◌, ◌^◌, ◌<◌, ◌≤◌, Bool, List, [], ◌∷◌, ◌++◌, length, map, drop}
use Rattle.std.specs.List.{repeat, flat_map, list_all}
use Rattle.nfg_block.specs.Lanes.{is_narrow_grapheme}
use Rattle.nfg_strand.specs.declared.piece.Piece.{Piece}

-- what contracts see of a strand: the part of its block, how often it stands there, and whether the block is of 8 bits
pub record Repetition : Type 0 where
  pub unit : List ℤ
  pub times : ℕ
  pub narrow : Bool

-- what holds of a strand over a block: its part lies inside and is not empty, it stands there at least once, and no number passes 2^40
pub record IsPartOf (block : List ℤ) (start end times : ℕ) : Type 0 where
  pub nonempty : start < end
  pub inside : end ≤ length block
  pub repeated : 0 < times
  pub end_bounded : end ≤ 2 ^ 40
  pub span_bounded : (end - start) * times ≤ 2 ^ 40

-- the strand of a whole new block, once
abbrev pub flat_strand : List ℤ → Repetition
flat_strand xs = record { unit = xs; times = 1; narrow = list_all is_narrow_grapheme xs }

-- the graphemes of a strand
abbrev pub graphemes_of : Repetition → List ℤ
graphemes_of s = repeat s.times s.unit

-- the piece of a strand
abbrev pub piece_of : Repetition → Piece
piece_of s = record { length = length s.unit; times = s.times; narrow = s.narrow }

-- the graphemes of strands in a row
abbrev pub graphemes : List Repetition → List ℤ
graphemes strands = flat_map graphemes_of strands

-- their pieces
abbrev pub pieces : List Repetition → List Piece
pieces strands = map piece_of strands

-- what is left from place `at` of the first strand's unit on, with `later` more of that unit, and all strands after it
abbrev pub left_of : List Repetition → ℕ → ℕ → List ℤ
left_of [] at later = []
left_of (s ∷ strands) at later = drop at s.unit ++ (repeat later s.unit ++ graphemes strands)

-- a place in strands: within the first strand's unit, with no more repetitions to come than the strand has
abbrev pub IsPlaceIn : List Repetition → ℕ → ℕ → Type 0
IsPlaceIn [] at later = Unit {0}
IsPlaceIn (s ∷ strands) at later = (at < length s.unit) × (later < s.times)

-- a count of graphemes that the first strand has, and more
abbrev pub IsInFirst : List Repetition → ℕ → Type 0
IsInFirst [] k = ⊥
IsInFirst (s ∷ strands) k = k < length s.unit * s.times
