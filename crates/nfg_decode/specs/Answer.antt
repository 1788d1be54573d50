-- What a stream answers (this project's own).
use Rattle.std.specs.Prelude.{⊤, Result, Ok, Err}
use Rattle.nfg_decode.specs.declared.encoding.DecodeError.{DecodeError}
use Rattle.nfg_decode.specs.declared.encoding.DecodeError.TheVariants.{Malformed, OutOfMemory}
use Rattle.nfg_decode.specs.Decoded.{Decoded}

-- P, if the answer is not want of memory
abbrev pub UnlessOutOfMemory : Result (Unit {0}) DecodeError → Type 0 → Type 0
UnlessOutOfMemory (Ok u) P = P
UnlessOutOfMemory (Err (Malformed at)) P = P
UnlessOutOfMemory (Err OutOfMemory) P = ⊤

-- the answer for all of the bytes
abbrev pub answer_of : Decoded → Result (Unit {0}) DecodeError
answer_of (Ok t) = Ok tt
answer_of (Err at) = Err (Malformed at)
