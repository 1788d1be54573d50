-- Which clusters a list of numbers stands for (this project's own; grapheme clusters are those of UAX #29).
use Rattle.std.specs.Prelude.{◌≡◌, ℕ, List, [], ◌∷◌, Option, Some, None, ℤ, pos, negsuc, if◌then◌else◌}
use Rattle.std.specs.List.{AllZip}
use lib.Utf8.{scalar as is_scalar}
use Rattle.nfg_text.specs.Graphemes.{IsInNfg}
use Rattle.nfg_syn.specs.Known.{Texts}

-- A scalar value spells itself, a negative number the text that it is known to stand for, and no
-- other number spells anything.
abbrev pub spelling : Texts → ℤ → Option (List ℕ)
spelling known (pos c) = if is_scalar c then Some (c ∷ []) else None
spelling known (negsuc m) = known m

-- each number, in order, spells the cluster at its place, and there are as many of both
abbrev pub Represents : Texts → List ℤ → List (List ℕ) → Type 0
Represents known numbers clusters = AllZip (λ n c. spelling known n ≡ Some c) numbers clusters

-- they stand for some clusters, so each negative number is known
abbrev pub AreKnown : Texts → List ℤ → Type 0
AreKnown known numbers = (clusters : List (List ℕ)) × Represents known numbers clusters

-- they stand for the graphemes of some text
abbrev pub AreGraphemes : Texts → List ℤ → Type 0
AreGraphemes known numbers = (clusters : List (List ℕ)) × Represents known numbers clusters × IsInNfg clusters
