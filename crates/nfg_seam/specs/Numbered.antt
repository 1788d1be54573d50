-- Clusters become numbers of a table (this project's own).
use Rattle.std.specs.Prelude.{◌≡◌, ⊤, ℕ, ◌<◌, List, [], ◌∷◌, length, map, take, Some, ℤ}
use Rattle.nfg_text.specs.Text.{IsText}
use Rattle.nfg_segment.specs.Given.{Given}
use Rattle.nfg_syn.specs.Known.{Texts, IsSame, IsUnknown}
use Rattle.nfg_syn.specs.Learned.{HasLearned, StopsAt, StopsSomewhere, several, first_long}
use Rattle.nfg_syn.specs.Represents.{Represents, spelling}
use Rattle.nfg_syn.specs.Seen.{Seen}
use Rattle.nfg_seam.specs.declared.error.SeamError.{SeamError}
use Rattle.nfg_seam.specs.declared.error.SeamError.TheVariants.{TooLong, ClusterLong, RowFull, NoPortion, OutOfMemory}

-- a text of at least one code point
abbrev pub IsCluster : List ℕ → Type 0
IsCluster cluster = IsText cluster × (0 < length cluster)

-- each of them is one
abbrev pub AreClusters : List (List ℕ) → Type 0
AreClusters [] = ⊤
AreClusters (cluster ∷ clusters) = IsCluster cluster × AreClusters clusters

-- a sink was given these clusters
pub record Holds (given : Given) (clusters : List (List ℕ)) : Type 0 where
  pub heads : given.heads ≡ map (take 1024) clusters
  pub first_long : given.first_long ≡ first_long clusters
  pub are : AreClusters clusters

-- the number stands for the cluster, which the pass has learned
abbrev pub IsNumbered : List ℕ → Texts → Texts → ℤ → Type 0
IsNumbered cluster old new number =
    (spelling new number ≡ Some cluster) × HasLearned old (several (cluster ∷ [])) new

-- the table has no number for the cluster, for a reason, and the pass has learned nothing
pub record IsDenied (cluster : List ℕ) (old new : Texts) (Reason : Type 0) : Type 0 where
  pub needs_number : 1 < length cluster
  pub unknown : IsUnknown new cluster
  pub reason : Reason
  pub same : IsSame old new

-- why a cluster gets no number
abbrev pub IsUnnumbered : List ℕ → Seen → Seen → SeamError → Type 0
IsUnnumbered cluster old new TooLong = ⊥
IsUnnumbered cluster old new (ClusterLong at) = ⊥
IsUnnumbered cluster old new RowFull = IsDenied cluster old.known new.known (new.full cluster)
IsUnnumbered cluster old new NoPortion = IsDenied cluster old.known new.known new.drained
IsUnnumbered cluster old new OutOfMemory = IsSame old.known new.known

-- the numbers stand for the clusters, and these are what the pass has learned
pub record AreNumbered (clusters : List (List ℕ)) (old new : Texts) (numbers : List ℤ) : Type 0 where
  pub represents : Represents new numbers clusters
  pub learned : HasLearned old (several clusters) new

-- why clusters get no numbers
abbrev pub AreRefused : List (List ℕ) → Seen → Seen → SeamError → Type 0
AreRefused clusters old new TooLong = ⊥
AreRefused clusters old new (ClusterLong at) = (first_long clusters ≡ Some at) × IsSame old.known new.known
AreRefused clusters old new RowFull = StopsAt clusters old.known new.known new.full
AreRefused clusters old new NoPortion = StopsAt clusters old.known new.known (λ _. new.drained)
AreRefused clusters old new OutOfMemory = StopsSomewhere clusters old.known new.known
