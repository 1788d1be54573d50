-- The order of numbers, or that order turned round (this project's own).
use Rattle.std.specs.Prelude.{Bool, true, false, ℤ, ◌<ℤ◌}

-- the first comes before the second
abbrev pub Precedes : Bool → ℤ → ℤ → Type 0
Precedes false a b = a <ℤ b
Precedes true a b = b <ℤ a
