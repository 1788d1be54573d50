-- What a stream knows of the bytes that it has read (this project's own).
use Rattle.std.specs.Prelude.{◌≡◌, ⊤, ℕ, ◌+◌, List, [], ◌∷◌, ◌++◌, length, drop, Option, None, Some, Ok, MatchOption}
use Rattle.nfg_decode.specs.declared.encoding.Encoding.{Encoding}
use Rattle.nfg_decode.specs.declared.encoding.Encoding.TheVariants as encodings
use Rattle.nfg_decode.specs.declared.reading.Form.{Form}
use Rattle.nfg_decode.specs.declared.reading.Form.TheVariants.{Utf8, Utf16, Latin1}
use Rattle.nfg_decode.specs.declared.mark.Opening.{Opening}
use Rattle.nfg_decode.specs.declared.state.State.{State}
use Rattle.nfg_decode.specs.declared.state.Next.{Next}
use Rattle.nfg_decode.specs.declared.step.Step.{Step}
use Rattle.nfg_decode.specs.declared.step.Step.TheVariants.{Whole, Held, Other}
use Rattle.nfg_decode.specs.declared.tail.Tail.{Tail}
use Rattle.nfg_decode.specs.declared.tail.Tail.TheVariants.{Empty, One, Two, Three}
use Rattle.nfg_decode.specs.Encoding.{decode, decoded_prefix, IsAlreadyMalformed}
use Rattle.nfg_decode.specs.Reads.{IsUnfinished}
use Rattle.nfg_decode.specs.Reading.{as_encoding}
use Rattle.nfg_decode.specs.Tail.{bytes_of}
use Rattle.nfg_decode.specs.Mark.{MayBeMark, Reduces}

-- the codes that the piece adds to those of the bytes before it stand at the end of the list now
abbrev pub GivesNext : Encoding → List ℕ → List ℕ → List ℕ → List ℕ → Type 0
GivesNext e bytes piece old new =
    (more : List ℕ) × (new ≡ old ++ more)
    × (decoded_prefix e (bytes ++ piece) ≡ decoded_prefix e bytes ++ more)

-- the mark is still to come: all of the bytes are held
pub record IsBeforeMark (s : State) (e : Encoding) (bytes : List ℕ) : Type 0 where
  pub encoding : e ≡ encodings.Utf16
  pub held : bytes ≡ bytes_of s.tail
  pub mark : MayBeMark (bytes_of s.tail)
  pub settled : s.settled ≡ 0

-- behind what is no part of the text, the front of the body is the text, and the rest is unfinished
pub record IsBetween (settled : ℕ) (e : Encoding) (bytes : List ℕ) (form : Form) (tail rest : List ℕ) : Type 0 where
  pub start : ℕ
  pub front : List ℕ
  pub text : List ℕ
  pub reduces : Reduces e bytes (as_encoding form) (front ++ (tail ++ rest)) start
  pub whole : decode (as_encoding form) front ≡ Ok text
  pub unfinished : IsUnfinished (as_encoding form) tail
  pub place : settled ≡ start + length front

-- a stream in this state has read these bytes, and they may still become a text
abbrev pub IsOpen : State → Encoding → List ℕ → Type 0
IsOpen s e bytes =
    MatchOption s.form (IsBeforeMark s e bytes) (λ form. IsBetween s.settled e bytes form (bytes_of s.tail) [])

-- the piece can be read
abbrev pub IsReady : State → Encoding → List ℕ → List ℕ → Opening → Type 0
IsReady s e bytes piece o = MatchOption o.form
    (IsBeforeMark (record { form = o.form; settled = s.settled; tail = o.tail }) e (bytes ++ piece)
    × (decoded_prefix e bytes ≡ []))
    (λ form. (b : IsBetween (s.settled + o.mark) e (bytes ++ piece) form (bytes_of o.tail) (drop o.used piece))
    × (decoded_prefix e bytes ≡ b.text))

-- the piece was read
pub record HasAdvanced (e : Encoding) (bytes piece old new : List ℕ) (next : Next) : Type 0 where
  pub given : GivesNext e bytes piece old new
  pub state : MatchOption next.malformed (IsOpen next.state e (bytes ++ piece)) (λ at. IsAlreadyMalformed e (bytes ++ piece) at)

-- the state behind a piece that is not malformed
abbrev pub open_next : State → ℕ → Tail → Next
open_next s settled tail = record { state = record { form = s.form; settled = settled; tail = tail }; malformed = None }

-- the piece is one byte, and makes this of the held ones
abbrev pub StepsOn : State → List ℕ → Step → Type 0
StepsOn s piece (Whole code) = (length piece ≡ 1) × ((e : Encoding) (bytes old : List ℕ) → IsOpen s e bytes
    → HasAdvanced e bytes piece old (old ++ code ∷ []) (open_next s (s.settled + length (bytes_of s.tail) + 1) Empty))
StepsOn s piece (Held tail) = (length piece ≡ 1) × (length (bytes_of tail) ≡ length (bytes_of s.tail) + 1)
    × ((e : Encoding) (bytes old : List ℕ) → IsOpen s e bytes
    → HasAdvanced e bytes piece old old (open_next s s.settled tail))
StepsOn s piece Other = ⊤

-- a byte below this number is a whole sequence, that of the code point of its number
abbrev pub whole_limit : Form → ℕ
whole_limit Utf8 = 128
whole_limit (Utf16 order) = 0
whole_limit Latin1 = 256

-- that number where no bytes are held, and none where some are or the mark is to come
abbrev pub lone_limit : Option Form → Tail → ℕ
lone_limit (Some form) Empty = whole_limit form
lone_limit (Some form) (One x) = 0
lone_limit (Some form) (Two x y) = 0
lone_limit (Some form) (Three x y z) = 0
lone_limit None tail = 0

-- the same where nothing was malformed, and 0 where a place was
abbrev pub limit_of : Option ℕ → Option Form → Tail → ℕ
limit_of None form tail = lone_limit form tail
limit_of (Some at) form tail = 0
