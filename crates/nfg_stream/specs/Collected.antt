-- How clusters are kept as numbers before a table has numbered them (this project's own).
use Rattle.std.specs.Prelude.{⊤, ℕ, ◌<◌, List, [], ◌∷◌, ℤ, pos, negsuc}
use Rattle.std.specs.List.{slice_index_or}

-- a number of 0 or more is a cluster of that one code point, and -(k + 1) the longer cluster at k
abbrev pub kept_as : List (List ℕ) → ℤ → List ℕ
kept_as longer (pos c) = c ∷ []
kept_as longer (negsuc k) = slice_index_or longer k []

-- there is such a cluster, where there are `count` longer ones
abbrev pub IsCounted : ℕ → ℤ → Type 0
IsCounted count (pos c) = ⊤
IsCounted count (negsuc k) = k < count

-- so it is of each number
abbrev pub AreCounted : ℕ → List ℤ → Type 0
AreCounted count [] = ⊤
AreCounted count (n ∷ ns) = IsCounted count n × AreCounted count ns
