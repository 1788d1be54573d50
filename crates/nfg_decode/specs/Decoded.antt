-- What decoding gives: the text, or the offset in bytes of the first malformed sequence (this project's own).
use Rattle.std.specs.Prelude.{ℕ, ◌+◌, List, ◌++◌, Result, Ok, Err}

-- `Ok` has the code points of the text, and `Err` the place of the first malformed sequence
abbrev pub Decoded : Type 0
Decoded = Result (List ℕ) ℕ

-- the text t, spelled by n bytes, and then what follows them
abbrev pub after_text : List ℕ → ℕ → Decoded → Decoded
after_text t n (Ok u) = Ok (t ++ u)
after_text t n (Err p) = Err (n + p)
