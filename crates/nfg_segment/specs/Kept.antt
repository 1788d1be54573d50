-- How clusters are kept in lists of numbers (this project's own).
use Rattle.std.specs.Prelude.{ℕ, ◌+◌, ◌-◌, ◌<◌, ◌≤◌, nat_lt, List, [], ◌∷◌, if◌then◌else◌}
use Rattle.std.specs.List.{slice_index_or, slice_range}
use Rattle.nfg_segment.specs.declared.texts.Span.{Span}

-- the part of the code points that a span covers
abbrev pub spanned : List ℕ → Span → List ℕ
spanned codes span = slice_range codes span.start span.end

-- every span lies within that many code points
abbrev pub AreWithin : ℕ → List Span → Type 0
AreWithin len [] = Unit {0}
AreWithin len (span ∷ spans) = (span.start ≤ span.end) × (span.end ≤ len) × AreWithin len spans

-- a number below 2^31 is a cluster of that one code point; from there on numbers count the longer clusters
abbrev pub head_of : List (List ℕ) → ℕ → List ℕ
head_of longer number =
    if nat_lt number 0x8000_0000 then number ∷ [] else slice_index_or longer (number - 0x8000_0000) []

-- every number that counts a longer cluster counts one of that many
abbrev pub AreCounted : ℕ → List ℕ → Type 0
AreCounted count [] = Unit {0}
AreCounted count (number ∷ numbers) = (number < 0x8000_0000 + count) × AreCounted count numbers
