-- What a stream was fed, and what it has refused (this project's own).
use Rattle.std.specs.Prelude.{⊤, ℕ, List, Option, Some, None, Result, Ok, Err}
use Rattle.nfg_decode.specs.declared.encoding.Encoding.{Encoding}
use Rattle.nfg_stream.specs.declared.error.LoadError.{LoadError}
use Rattle.nfg_stream.specs.declared.error.LoadError.TheVariants.{Malformed, ClusterLong, RowFull, NoPortion, OutOfMemory}
use Rattle.nfg_stream.specs.declared.stream.DecodeStream.{DecodeStream}
use Rattle.nfg_stream.specs.Reading.{IsOpen}

-- these bytes, in this encoding, are what was fed to the stream
unfoldable pub HasRead : DecodeStream → Encoding → List ℕ → Type 0
HasRead stream e bytes = IsOpen stream.reader stream.refused e bytes

-- how many bytes were fed
unfoldable pub fed_count : DecodeStream → ℕ
fed_count stream = stream.fed

-- the refusal that stays
unfoldable pub refusal_of : DecodeStream → Option LoadError
refusal_of stream = stream.refused

-- the error of an answer
abbrev pub error_of : Result (Unit {0}) LoadError → Option LoadError
error_of (Ok u) = None
error_of (Err error) = Some error

-- a refusal that can come before the end
abbrev pub IsEarly : LoadError → Type 0
IsEarly (Malformed at) = ⊤
IsEarly (ClusterLong at) = ⊥
IsEarly RowFull = ⊥
IsEarly NoPortion = ⊥
IsEarly OutOfMemory = ⊤
