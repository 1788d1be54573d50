-- Strings that are made from a text (this project's own).
use Rattle.std.specs.Prelude.{◌≡◌, ℕ, List, Some, None, Result, Ok, Err}
use Rattle.nfg_text.specs.Graphemes.{graphemes_of}
use Rattle.nfg_decode.specs.Decoded.{Decoded}
use Rattle.nfg_syn.specs.Known.{Texts, IsSame}
use Rattle.nfg_syn.specs.Learned.{HasLearned, several, first_long, StopsAt, StopsSomewhere}
use Rattle.nfg_syn.specs.Represents.{Represents}
use Rattle.nfg_syn.specs.Seen.{Seen}
use Rattle.nfg_strand.specs.Pieces.{flat_piece}
use Rattle.nfg_strand.specs.Value.{Rope}
use Rattle.nfg_stream.specs.declared.error.LoadError.{LoadError}
use Rattle.nfg_stream.specs.declared.error.LoadError.TheVariants.{Malformed, ClusterLong, RowFull, NoPortion, OutOfMemory}

-- the string stands for the clusters, in one piece, and they are what the pass has learned
pub record IsMade (clusters : List (List ℕ)) (old new : Texts) (made : Rope) : Type 0 where
  pub short : first_long clusters ≡ None
  pub represents : Represents new made.graphemes clusters
  pub pieces : made.pieces ≡ flat_piece made.graphemes
  pub learned : HasLearned old (several clusters) new

-- what comes of these clusters
abbrev pub HasMade : List (List ℕ) → Seen → Seen → Result Rope LoadError → Type 0
HasMade clusters old new (Ok made) = IsMade clusters old.known new.known made
HasMade clusters old new (Err (Malformed at)) = ⊥
HasMade clusters old new (Err (ClusterLong at)) = (first_long clusters ≡ Some at) × IsSame old.known new.known
HasMade clusters old new (Err RowFull) = StopsAt clusters old.known new.known new.full
HasMade clusters old new (Err NoPortion) = StopsAt clusters old.known new.known (λ _. new.drained)
HasMade clusters old new (Err OutOfMemory) = StopsSomewhere clusters old.known new.known

-- what comes of bytes that aren't a text
abbrev pub IsMalformed : ℕ → Seen → Seen → Result Rope LoadError → Type 0
IsMalformed place old new (Ok made) = ⊥
IsMalformed place old new (Err (Malformed at)) = (at ≡ place) × IsSame old.known new.known
IsMalformed place old new (Err (ClusterLong at)) = ⊥
IsMalformed place old new (Err RowFull) = ⊥
IsMalformed place old new (Err NoPortion) = ⊥
IsMalformed place old new (Err OutOfMemory) = IsSame old.known new.known

-- what comes of bytes that decode so
abbrev pub HasLoaded : Decoded → Seen → Seen → Result Rope LoadError → Type 0
HasLoaded (Ok text) old new result = HasMade (graphemes_of text) old new result
HasLoaded (Err place) old new result = IsMalformed place old new result
