-- What comes of a concatenation or a repetition, and what a table's pass learns by it (this project's own).
use Rattle.std.specs.Prelude.{◌≡◌, ◌<◌, ◌≤◌, ℕ, List, Some, None, Result, Ok, Err}
use Rattle.nfg_syn.specs.Known.{Texts, IsSame}
use Rattle.nfg_syn.specs.Learned.{HasLearned, StopsAt, StopsSomewhere, several, first_long}
use Rattle.nfg_syn.specs.Represents.{Represents}
use Rattle.nfg_syn.specs.Seen.{Seen}
use Rattle.nfg_strand.specs.declared.piece.Piece.{Piece}
use Rattle.nfg_strand.specs.Value.{Rope}
use Rattle.nfg_seam.specs.declared.error.SeamError.{SeamError}
use Rattle.nfg_seam.specs.declared.error.SeamError.TheVariants.{TooLong, ClusterLong, RowFull, NoPortion, OutOfMemory}

-- the most graphemes that are joined at once
abbrev pub length_limit : ℕ
length_limit = 67108864

-- the string stands for the clusters, in these pieces, and they are what the pass has learned
pub record IsMade (clusters : List (List ℕ)) (pieces : List Piece) (old new : Texts) (made : Rope) : Type 0 where
  pub short : first_long clusters ≡ None
  pub represents : Represents new made.graphemes clusters
  pub in_pieces : made.pieces ≡ pieces
  pub learned : HasLearned old (several clusters) new

-- what comes of so many graphemes that are joined, where the result has these clusters in these pieces
abbrev pub HasJoined : (count : ℕ) → List (List ℕ) → List Piece → Seen → Seen → Result Rope SeamError → Type 0
HasJoined count clusters pieces old new (Ok made) =
    (count ≤ length_limit) × IsMade clusters pieces old.known new.known made
HasJoined count clusters pieces old new (Err TooLong) = (length_limit < count) × IsSame old.known new.known
HasJoined count clusters pieces old new (Err (ClusterLong at)) =
    (count ≤ length_limit) × (first_long clusters ≡ Some at) × IsSame old.known new.known
HasJoined count clusters pieces old new (Err RowFull) =
    (count ≤ length_limit) × StopsAt clusters old.known new.known new.full
HasJoined count clusters pieces old new (Err NoPortion) =
    (count ≤ length_limit) × StopsAt clusters old.known new.known (λ _. new.drained)
HasJoined count clusters pieces old new (Err OutOfMemory) = StopsSomewhere clusters old.known new.known
