-- What a stream has read (this project's own).
use Rattle.std.specs.Prelude.{◌≡◌, ⊤, ℕ, List, ◌++◌, None, Result, Err, MatchOption, IsErrOf}
use Rattle.nfg_decode.specs.declared.encoding.Encoding.{Encoding}
use Rattle.nfg_decode.specs.declared.encoding.DecodeError.{DecodeError}
use Rattle.nfg_decode.specs.declared.encoding.DecodeError.TheVariants.{Malformed}
use Rattle.nfg_decode.specs.declared.stream.ByteStream.{ByteStream}
use Rattle.nfg_decode.specs.declared.step.Step.{Step}
use Rattle.nfg_decode.specs.declared.step.Step.TheVariants.{Whole, Held, Other}
use Rattle.nfg_decode.specs.declared.tail.Tail.TheVariants.{Empty}
use Rattle.nfg_decode.specs.Encoding.{IsAlreadyMalformed}
use Rattle.nfg_decode.specs.State.{IsOpen, GivesNext, StepsOn}
use Rattle.nfg_decode.specs.Answer.{UnlessOutOfMemory}

-- these bytes, in this encoding, are what was fed to the stream since it was made
unfoldable pub HasRead : ByteStream → Encoding → List ℕ → Type 0
HasRead s e bytes = MatchOption s.malformed (IsOpen s.state e bytes) (λ at. IsAlreadyMalformed e bytes at)

-- how many bytes were fed
unfoldable pub fed_count : ByteStream → ℕ
fed_count s = s.fed

-- what a piece behind these bytes gives, in one
pub record Feeds (e : Encoding) (bytes piece old new : List ℕ) (after : ByteStream)
    (result : Result (Unit {0}) DecodeError) : Type 0 where
  pub read : UnlessOutOfMemory result (HasRead after e (bytes ++ piece))
  pub decoded : UnlessOutOfMemory result (GivesNext e bytes piece old new)
  pub malformed : (at : ℕ) → IsErrOf result (Malformed at) → IsAlreadyMalformed e (bytes ++ piece) at
  pub found : (at : ℕ) → IsAlreadyMalformed e (bytes ++ piece) at → UnlessOutOfMemory result (result ≡ Err (Malformed at))
  pub stays : (at : ℕ) → IsAlreadyMalformed e bytes at → (result ≡ Err (Malformed at)) × (new ≡ old)

-- nothing was malformed yet, the piece is one byte, and it makes this of the held ones
abbrev pub StepsFrom : ByteStream → List ℕ → Step → Type 0
StepsFrom s piece (Whole code) = (s.malformed ≡ None) × StepsOn s.state piece (Whole code)
StepsFrom s piece (Held tail) = (s.malformed ≡ None) × StepsOn s.state piece (Held tail)
StepsFrom s piece Other = ⊤

-- nothing was malformed yet, no bytes are held, and the piece is one byte and a whole sequence
abbrev pub IsLone : ByteStream → List ℕ → ℕ → Type 0
IsLone s piece code = (s.malformed ≡ None) × (s.state.tail ≡ Empty) × StepsOn s.state piece (Whole code)
