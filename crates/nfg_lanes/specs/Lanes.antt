-- What the kernels ask of a list, where the library has no word for it (this project's own).
use Rattle.std.specs.Prelude.{ℕ, ℤ, pos, negsuc, Bool, ◌==◌, nat_lt, List, reverse}
use Rattle.std.specs.List.{common_prefix_len}

-- a grapheme that a block of 8-bit graphemes may hold: an ASCII code point, or -1 for CR LF
abbrev pub is_narrow_grapheme : ℤ → Bool
is_narrow_grapheme (pos n) = nat_lt n 128
is_narrow_grapheme (negsuc n) = n == 0

-- the length of the longest common suffix: the common prefix, read from the back
abbrev pub common_suffix_len : {X : Type 0} → (X → X → Bool) → List X → List X → ℕ
common_suffix_len same xs ys = common_prefix_len same (reverse xs) (reverse ys)
