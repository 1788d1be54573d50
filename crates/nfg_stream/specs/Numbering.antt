-- Clusters become numbers of a table (this project's own).
use Rattle.std.specs.Prelude.{◌≡◌, ◌≢◌, ⊤, ℕ, ◌<◌, List, [], ◌∷◌, length, map, take, Some, Result, Ok, Err, ℤ, pos}
use Rattle.std.specs.List.{slice_index_or}
use Rattle.nfg_text.specs.Text.{IsText}
use Rattle.nfg_segment.specs.Given.{Given}
use Rattle.nfg_syn.specs.Known.{Texts, IsSame, IsUnknown}
use Rattle.nfg_syn.specs.Represents.{Represents, spelling}
use Rattle.nfg_syn.specs.Seen.{Seen}
use Rattle.nfg_syn.specs.Learned.{HasLearned, several, first_long}
use Rattle.nfg_stream.specs.declared.error.LoadError.{LoadError}
use Rattle.nfg_stream.specs.declared.error.LoadError.TheVariants.{Malformed, ClusterLong, RowFull, NoPortion, OutOfMemory}

-- a text of at least one code point
abbrev pub IsCluster : List ℕ → Type 0
IsCluster cluster = IsText cluster × (0 < length cluster)

-- each of them is one
abbrev pub AreClusters : List (List ℕ) → Type 0
AreClusters [] = ⊤
AreClusters (cluster ∷ clusters) = IsCluster cluster × AreClusters clusters

-- a sink was given these clusters
pub record Holds (given : Given) (clusters : List (List ℕ)) : Type 0 where
  pub heads : given.heads ≡ map (take 1024) clusters
  pub first_long : given.first_long ≡ first_long clusters
  pub are : AreClusters clusters

-- or some clusters, whichever they are
abbrev pub HoldsSome : Given → Type 0
HoldsSome given = ∥ ((clusters : List (List ℕ)) × Holds given clusters) ∥₁

-- the table has no number for the cluster, for a reason, and the pass has learned nothing
pub record IsRefused (cluster : List ℕ) (old new : Texts) (Reason : Type 0) : Type 0 where
  pub needs_number : 1 < length cluster
  pub unknown : IsUnknown new cluster
  pub reason : Reason
  pub same : IsSame old new

-- what comes of one cluster
abbrev pub HasNumber : List ℕ → Seen → Seen → Result ℤ LoadError → Type 0
HasNumber cluster old new (Ok n) =
    (spelling new.known n ≡ Some cluster) × HasLearned old.known (several (cluster ∷ [])) new.known
HasNumber cluster old new (Err (Malformed at)) = ⊥
HasNumber cluster old new (Err (ClusterLong at)) = ⊥
HasNumber cluster old new (Err RowFull) = IsRefused cluster old.known new.known (new.full cluster)
HasNumber cluster old new (Err NoPortion) = IsRefused cluster old.known new.known new.drained
HasNumber cluster old new (Err OutOfMemory) = IsSame old.known new.known

-- numbers for the clusters, which are what the pass has learned
pub record AreNumbered (clusters : List (List ℕ)) (old new : Texts) (numbers : List ℤ) : Type 0 where
  pub represents : Represents new numbers clusters
  pub learned : HasLearned old (several clusters) new

-- The longer clusters that have their numbers already: what stands at a place is the number of the
-- cluster there, or 0.
abbrev pub AreInterned : List (List ℕ) → Texts → List ℤ → Type 0
AreInterned longer known interned = (k : ℕ) → slice_index_or interned k (pos 0) ≢ pos 0
    → spelling known (slice_index_or interned k (pos 0)) ≡ Some (slice_index_or longer k [])
