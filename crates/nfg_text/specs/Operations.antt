-- Plain operations on lists of graphemes, where each grapheme is the list of its code points (this project's own).
use Rattle.std.specs.Prelude.{ℕ, zero, suc, ◌+◌, ◌-◌, Bool, ◌&&◌, nat_le, List, ◌++◌, length, take, drop, bytes_eq, Option, Some, None, if◌then◌else◌}
use Rattle.std.specs.List.{repeat}
use Rattle.std.specs.Cmp.Lexicographic.{pointwise, slice_cmp}
use Rattle.std.specs.Ordering.{nat_cmp}
use Rattle.std.specs.declared.cmp.Ordering.{Ordering}
use Rattle.nfg_text.specs.Graphemes.{graphemes_of}
use Rattle.nfg_text.specs.Text.{text_of}

-- the graphemes of the joined text
abbrev pub concatenation : List (List ℕ) → List (List ℕ) → List (List ℕ)
concatenation a b = graphemes_of (text_of a ++ text_of b)

-- the graphemes of the text, joined `count` times
abbrev pub repetition : List (List ℕ) → ℕ → List (List ℕ)
repetition list count = graphemes_of (repeat count (text_of list))

-- at most `count` graphemes from place `start` on
abbrev pub part_of : List (List ℕ) → ℕ → ℕ → List (List ℕ)
part_of list start count = take count (drop start list)

-- the graphemes of `part` stand in the list from the place on; the empty list stands at each place up to the length
abbrev pub occurs_at : List (List ℕ) → List (List ℕ) → ℕ → Bool
occurs_at list part place =
    nat_le (place + length part) (length list) && pointwise bytes_eq (take (length part) (drop place list)) part

-- the first of `count` places, from `place` on, at which the part occurs
abbrev pub first_among : List (List ℕ) → List (List ℕ) → ℕ → ℕ → Option ℕ
first_among list part zero place = None
first_among list part (suc count) place =
    if occurs_at list part place then Some place else first_among list part count (place + 1)

-- the least place, `from` or more, at which the part occurs
abbrev pub first_place : List (List ℕ) → List (List ℕ) → ℕ → Option ℕ
first_place list part from = first_among list part (length list + 1 - from) from

-- the greatest place, `from` or less, at which the part occurs
abbrev pub last_place : List (List ℕ) → List (List ℕ) → ℕ → Option ℕ
last_place list part zero = if occurs_at list part 0 then Some 0 else None
last_place list part (suc before) =
    if occurs_at list part (suc before) then Some (suc before) else last_place list part before

-- the order of the texts, code point by code point, where a text comes after its own fronts
abbrev pub text_order : List (List ℕ) → List (List ℕ) → Ordering
text_order a b = slice_cmp nat_cmp (text_of a) (text_of b)
