-- What a pass learns of a table by the clusters of a string, in order (this project's own).
use Rattle.std.specs.Prelude.{◌≡◌, ℕ, ◌<◌, Bool, nat_lt, List, [], ◌∷◌, ◌++◌, length, filter, position, Option, None, ℤ}
use Rattle.nfg_text.specs.Graphemes.{is_too_long}
use Rattle.nfg_syn.specs.Known.{Texts, IsSame, IsWithin, IsUnknown, MapsBesides}

-- the cluster needs a number of the table: it has two or more code points
abbrev pub is_several : List ℕ → Bool
is_several cluster = nat_lt 1 (length cluster)

-- the clusters that need one, in order
abbrev pub several : List (List ℕ) → List (List ℕ)
several clusters = filter is_several clusters

-- the index of the first cluster of more than 1,024 code points, which no table numbers
abbrev pub first_long : List (List ℕ) → Option ℕ
first_long clusters = position is_too_long clusters

-- The pass has learned these texts in order: each was known already, or got one number besides. What was known
-- before a text stays known after it.
abbrev pub HasLearned : Texts → List (List ℕ) → Texts → Type 0
HasLearned old [] new = IsSame old new
HasLearned old (text ∷ texts) new =
    (n : ℤ) × (next : Texts) × MapsBesides old n text next × IsWithin old next × HasLearned next texts new

-- the table refused a cluster that the pass doesn't know, for a reason, and the pass has learned those before it
pub record StopsAt (clusters : List (List ℕ)) (old new : Texts) (Reason : List ℕ → Type 0) : Type 0 where
  pub front : List (List ℕ)
  pub cluster : List ℕ
  pub rest : List (List ℕ)
  pub parts : clusters ≡ front ++ cluster ∷ rest
  pub short : first_long clusters ≡ None
  pub needs_number : 1 < length cluster
  pub unknown : IsUnknown new cluster
  pub reason : Reason cluster
  pub learned : HasLearned old (several front) new

-- memory was wanting when the pass had learned the clusters before some place
pub record StopsSomewhere (clusters : List (List ℕ)) (old new : Texts) : Type 0 where
  pub front : List (List ℕ)
  pub rest : List (List ℕ)
  pub parts : clusters ≡ front ++ rest
  pub learned : HasLearned old (several front) new
