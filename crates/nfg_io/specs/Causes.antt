-- Causes of faults (this project's own): an object of the outside counts its faults, in 64 bits.
use Rattle.std.specs.Prelude.{ℕ, ◌+◌, ◌-◌, ◌^◌, ◌≤◌, min, Result, OnErr}

-- one more, up to the greatest number of 64 bits
abbrev pub one_more : ℕ → ℕ
one_more count = min (count + 1) (2 ^ 64 - 1)

-- the count is greater than before, or stands at 2 ^ 64 - 1
abbrev pub Rose : ℕ → ℕ → Type 0
Rose before after = one_more before ≤ after

-- a call fails only where the count rose
abbrev pub HasCause : {T E : Type 0} → ℕ → ℕ → Result T E → Type 0
HasCause before after result = OnErr result (Rose before after)
