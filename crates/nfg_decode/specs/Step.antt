-- What one byte makes of the unfinished sequence before it (this project's own).
use Rattle.std.specs.Prelude.{◌≡◌, List, ℕ, [], ◌∷◌, Ok, ⊤}
use Rattle.nfg_decode.specs.declared.encoding.Encoding.{Encoding}
use Rattle.nfg_decode.specs.declared.step.Step.{Step}
use Rattle.nfg_decode.specs.declared.step.Step.TheVariants.{Whole, Held, Other}
use Rattle.nfg_decode.specs.declared.step.Taken.{Taken}
use Rattle.nfg_decode.specs.declared.step.Taken.TheVariants.{All, OutOfMemory, Nothing}
use Rattle.nfg_decode.specs.Encoding.{decode}
use Rattle.nfg_decode.specs.Reads.{IsUnfinished}
use Rattle.nfg_decode.specs.Tail.{bytes_of}

-- the bytes are one sequence, or an unfinished one
abbrev pub StepsTo : Encoding → List ℕ → Step → Type 0
StepsTo e bytes (Whole code) = decode e bytes ≡ Ok (code ∷ [])
StepsTo e bytes (Held tail) = (bytes_of tail ≡ bytes) × IsUnfinished e bytes
StepsTo e bytes Other = ⊤

-- a fact for each case
abbrev pub MatchTaken : Taken → Type 0 → Type 0 → Type 0 → Type 0
MatchTaken All P Q R = P
MatchTaken OutOfMemory P Q R = Q
MatchTaken Nothing P Q R = R
