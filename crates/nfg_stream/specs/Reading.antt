-- Bytes are read into clusters (this project's own).
use Rattle.std.specs.Prelude.{◌≡◌, ⊤, ℕ, List, Option, Result, Ok, Err, MatchOption}
use Rattle.nfg_text.specs.Graphemes.{graphemes_of}
use Rattle.nfg_decode.specs.declared.encoding.Encoding.{Encoding}
use Rattle.nfg_decode.specs.Decoded.{Decoded}
use Rattle.nfg_decode.specs.Encoding.{decoded_prefix, AreBytes, IsAlreadyMalformed}
use Rattle.nfg_decode.specs.Stream.{HasRead as HasDecoded}
use Rattle.nfg_segment.specs.Follows.{Follows}
use Rattle.nfg_segment.specs.Given.{Given, nothing, with_clusters}
use Rattle.nfg_stream.specs.declared.error.LoadError.{LoadError}
use Rattle.nfg_stream.specs.declared.error.LoadError.TheVariants.{Malformed, ClusterLong, RowFull, NoPortion, OutOfMemory}
use Rattle.nfg_stream.specs.declared.reader.Reader.{Reader}
use Rattle.nfg_stream.specs.Numbering.{Holds}

-- The reader has decoded these bytes, in this encoding, and has the clusters that a segmenter gives of
-- the decoded prefix.
pub record IsReading (reader : Reader) (e : Encoding) (bytes : List ℕ) : Type 0 where
  pub octets : AreBytes bytes
  pub decoded : HasDecoded reader.bytes e bytes
  pub given : List (List ℕ)
  pub follows : Follows reader.segmenter (decoded_prefix e bytes) given
  pub collected : reader.clusters ≡ with_clusters nothing given

-- Why these bytes are refused before the end: they are malformed whatever follows. Want of memory has no
-- other reason.
abbrev pub IsEarlyRefusal : Encoding → List ℕ → LoadError → Type 0
IsEarlyRefusal e bytes (Malformed at) = IsAlreadyMalformed e bytes at
IsEarlyRefusal e bytes (ClusterLong at) = ⊥
IsEarlyRefusal e bytes RowFull = ⊥
IsEarlyRefusal e bytes NoPortion = ⊥
IsEarlyRefusal e bytes OutOfMemory = ⊤

-- no place is malformed whatever follows
abbrev pub MayBeText : Encoding → List ℕ → Type 0
MayBeText e bytes = (at : ℕ) → IsAlreadyMalformed e bytes at → ⊥

-- what comes of bytes, the last of which were just read
abbrev pub HasTaken : Reader → Encoding → List ℕ → Result (Unit {0}) LoadError → Type 0
HasTaken reader e bytes (Ok u) = IsReading reader e bytes × MayBeText e bytes
HasTaken reader e bytes (Err error) = IsEarlyRefusal e bytes error

-- what comes of the end of bytes that decode so
abbrev pub HasEnded : Given → Decoded → Result (Unit {0}) LoadError → Type 0
HasEnded given (Ok text) (Ok u) = Holds given (graphemes_of text)
HasEnded given (Err place) (Ok u) = ⊥
HasEnded given decoded (Err (Malformed at)) = decoded ≡ Err at
HasEnded given decoded (Err (ClusterLong at)) = ⊥
HasEnded given decoded (Err RowFull) = ⊥
HasEnded given decoded (Err NoPortion) = ⊥
HasEnded given decoded (Err OutOfMemory) = ⊤

-- a stream with this reader and this refusal has read these bytes
abbrev pub IsOpen : Reader → Option LoadError → Encoding → List ℕ → Type 0
IsOpen reader refused e bytes = MatchOption refused (IsReading reader e bytes) (λ error. IsEarlyRefusal e bytes error)

-- it has read some bytes, whichever they are
abbrev pub HasReadSome : Reader → Type 0
HasReadSome reader = ∥ ((e : Encoding) × (bytes : List ℕ) × IsReading reader e bytes) ∥₁

-- and so has the stream
abbrev pub IsOpenFor : Reader → Option LoadError → Type 0
IsOpenFor reader refused = ∥ ((e : Encoding) × (bytes : List ℕ) × IsOpen reader refused e bytes) ∥₁
