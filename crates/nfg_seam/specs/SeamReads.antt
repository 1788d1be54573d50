-- What calls that only ask a table keep of a pass, and what the ends of a seam are (this project's own).
use Rattle.std.specs.Prelude.{◌≡◌, ◌⊎◌, ⊤, ℕ, suc, Bool, true, not, List, [], ◌∷◌, drop}
use Rattle.std.specs.List.{list_all}
use Rattle.nfg_syn.specs.Known.{IsSame}
use Rattle.nfg_syn.specs.Seen.{Seen, Keeps, SameCounts}
use Rattle.nfg_seam.specs.Seam.{begins_safely, BeginSafely}

-- the pass was lent to calls that only ask: it knows what it knew
pub record HasAsked (old new : Seen) : Type 0 where
  pub kept : Keeps old new
  pub counts : SameCounts old new
  pub known : IsSame old.known new.known

-- the cluster does not begin with a code point that starts safely
abbrev pub is_unsafe : List ℕ → Bool
is_unsafe cluster = not (begins_safely cluster)

-- the last place at which a cluster begins safely, or the start where none does
pub record IsLeftEnd (list : List (List ℕ)) (left : ℕ) : Type 0 where
  pub start : (left ≡ 0) ⊎ BeginSafely (drop left list)
  pub last : list_all is_unsafe (drop (suc left) list) ≡ true

-- the first of the clusters begins safely, where there are any
abbrev pub StartSafely : List (List ℕ) → Type 0
StartSafely [] = ⊤
StartSafely (cluster ∷ clusters) = begins_safely cluster ≡ true
