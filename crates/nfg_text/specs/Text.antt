-- Texts: lists of Unicode scalar values (The Unicode Standard, section 3.9).
use Rattle.std.specs.Prelude.{◌≡◌, ℕ, true, List}
use Rattle.std.specs.List.{concat}
use Rattle.std.specs.Str.{all_scalars}

-- every number of the list is a scalar value
abbrev pub IsText : List ℕ → Type 0
IsText t = all_scalars t ≡ true

-- the texts of the list, joined in order
abbrev pub text_of : List (List ℕ) → List ℕ
text_of texts = concat texts
