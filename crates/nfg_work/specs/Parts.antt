-- One file that is loaded in parts (this project's own).
use Rattle.std.specs.Prelude.{◌≡◌, ℕ, suc, ◌<◌, ◌≤◌, ◌++◌, false, List, length, get_or, slice_range, drop, Option, Some, None, Result, Ok, Err}
use Rattle.nfg_text.specs.Graphemes.{graphemes_of}
use Rattle.nfg_decode.specs.declared.encoding.Encoding.{Encoding}
use Rattle.nfg_decode.specs.Encoding.{decode}
use Rattle.nfg_syn.specs.Known.{Texts, IsSame}
use Rattle.nfg_syn.specs.Learned.{first_long}
use Rattle.nfg_syn.specs.Represents.{Represents}
use Rattle.nfg_syn.specs.Seen.{Seen, Keeps, SameCounts}
use Rattle.nfg_strand.specs.Value.{Rope}
use Rattle.nfg_stream.specs.declared.error.LoadError.{LoadError}
use Rattle.nfg_stream.specs.declared.error.LoadError.TheVariants.{OutOfMemory}
use Rattle.nfg_stream.specs.Load.{HasLoaded}
use Rattle.nfg_work.specs.Growth.{GrowsOnlyBy}
use Rattle.nfg_work.specs.Reach.{MayBeRead, IsPartCluster}
use Rattle.nfg_work.specs.Workers.{CountAlike}

-- the text has two or more code points, and is a cluster of some consecutive bytes
abbrev pub IsOfParts : Encoding → (bytes t : List ℕ) → Type 0
IsOfParts e bytes t = (2 ≤ length t) × IsPartCluster e bytes t

-- what is known besides are such texts
abbrev pub GrowsByParts : Encoding → (bytes : List ℕ) → (old new : Texts) → Type 0
GrowsByParts e bytes old new = GrowsOnlyBy (IsOfParts e bytes) old new

-- What comes of loading bytes in parts: the pass has learned clusters of parts, and what comes of loading all bytes
-- then. Want of memory may come in place of anything.
abbrev pub HasLoadedParts : Encoding → (bytes : List ℕ) → (old new : Seen) → Result Rope LoadError → Type 0
HasLoadedParts e bytes old new (Err OutOfMemory) = GrowsByParts e bytes old.known new.known
HasLoadedParts e bytes old new result =
    (between : Texts) × GrowsByParts e bytes old.known between
    × HasLoaded (decode e bytes) (record new { known = between }) new result

-- passes were forked and met alike, at most so many, unless memory was wanting
abbrev pub LoadCountsAlike : (most : ℕ) → (old new : Seen) → Result Rope LoadError → Type 0
LoadCountsAlike most old new (Err OutOfMemory) = Unit {0}
LoadCountsAlike most old new _ = CountAlike most old new

-- texts of two stretches of bytes, joined, are the text of the bytes, joined: in each encoding but UTF-16 with a mark
abbrev pub TextsGoOn : Encoding → Type 0
TextsGoOn e =
    (front back text : List ℕ) → decode e front ≡ Ok text
    → (more : List ℕ) → decode e back ≡ Ok more → decode e (front ++ back) ≡ Ok (text ++ more)

-- behind this place, the bytes are the text of all of them, in an encoding in which texts go on
pub record IsBody (e : Encoding) (bytes : List ℕ) (body : Encoding) (start : ℕ) : Type 0 where
  pub within : start ≤ length bytes
  pub may : MayBeRead e body
  pub goes_on : TextsGoOn body
  pub decoded : (text : List ℕ) → decode body (drop start bytes) ≡ Ok text → decode e bytes ≡ Ok text

-- these places cut so many bytes: from 0, up and up, to the end
pub record AreBounds (count : ℕ) (bounds : List ℕ) : Type 0 where
  pub some : 1 < length bounds
  pub first : get_or bounds 0 0 ≡ 0
  pub last : (k : ℕ) → suc k ≡ length bounds → get_or bounds k 0 ≡ count
  pub ascending : (k : ℕ) → suc k < length bounds → get_or bounds k 0 ≤ get_or bounds (suc k) 0
  pub within : (k : ℕ) → k < length bounds → get_or bounds k 0 ≤ count

-- the bytes between the bound at k and the next one
abbrev pub part_at : (bytes bounds : List ℕ) → (k : ℕ) → List ℕ
part_at bytes bounds k = slice_range bytes (get_or bounds k 0) (get_or bounds (suc k) 0)

-- the string stands for the text of the bytes, in which no cluster is too long
pub record IsStringOfBytes (known : Texts) (e : Encoding) (bytes : List ℕ) (string : Rope) : Type 0 where
  pub text : List ℕ
  pub decoded : decode e bytes ≡ Ok text
  pub short : first_long (graphemes_of text) ≡ None
  pub represents : Represents known string.graphemes (graphemes_of text)

-- so does the string, where there is one
abbrev pub IsStringOrNone : Texts → Encoding → (bytes : List ℕ) → Option Rope → Type 0
IsStringOrNone known e bytes None = Unit {0}
IsStringOrNone known e bytes (Some string) = IsStringOfBytes known e bytes string

-- a worker is about to load a part, with a fork of a pass that knows these texts
pub record IsReadyToLoad (base : Texts) (fork : Seen) : Type 0 where
  pub known : IsSame base fork.known
  pub root : fork.root ≡ false
  pub meets : fork.meets ≡ 0

-- a worker has loaded its part
pub record HasLoadedPart (e : Encoding) (part : List ℕ) (old new : Seen) (made : Option Rope) : Type 0 where
  pub keeps : Keeps old new
  pub counts : SameCounts old new
  pub grown : GrowsByParts e part old.known new.known
  pub string : IsStringOrNone new.known e part made

-- a fork that can be met in a pass that knew these texts, and the string of its part
pub record IsLoaded (e : Encoding) (part : List ℕ) (base : Texts) (fork : Seen) (made : Option Rope) : Type 0 where
  pub root : fork.root ≡ false
  pub meets : fork.meets ≡ 0
  pub grown : GrowsByParts e part base fork.known
  pub string : IsStringOrNone fork.known e part made
