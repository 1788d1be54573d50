-- The bytes of an unfinished sequence, as a list (this project's own).
use Rattle.std.specs.Prelude.{ℕ, List, [], ◌∷◌}
use Rattle.nfg_decode.specs.declared.tail.Tail.{Tail}
use Rattle.nfg_decode.specs.declared.tail.Tail.TheVariants.{Empty, One, Two, Three}

-- the held bytes in order
abbrev pub bytes_of : Tail → List ℕ
bytes_of Empty = []
bytes_of (One x) = x ∷ []
bytes_of (Two x y) = x ∷ y ∷ []
bytes_of (Three x y z) = x ∷ y ∷ z ∷ []
