-- Least and greatest places that pass a test, and the places at which numbers stand in numbers (this project's own).
use Rattle.std.specs.Prelude.{◌≡◌, ℕ, ◌+◌, ◌<◌, ◌≤◌, Bool, true, false, ◌&&◌, nat_le, List, length, take, drop, Option, MatchOption, ℤ}
use Rattle.std.specs.Cmp.Lexicographic.{pointwise}
use Rattle.std.specs.Ordering.{int_eq}

-- the numbers of `part` stand in the list from the place on
abbrev pub stand_at : List ℤ → List ℤ → ℕ → Bool
stand_at list part place =
    nat_le (place + length part) (length list) && pointwise int_eq (take (length part) (drop place list)) part

-- the least place, `from` or more, that passes; nothing where none does
abbrev pub IsFirst : (ℕ → Bool) → ℕ → Option ℕ → Type 0
IsFirst test from found = MatchOption found
    ((k : ℕ) → from ≤ k → test k ≡ false)
    (λ place. (from ≤ place) × (test place ≡ true) × ((k : ℕ) → from ≤ k → k < place → test k ≡ false))

-- the greatest place, `from` or less, that passes; nothing where none does
abbrev pub IsLast : (ℕ → Bool) → ℕ → Option ℕ → Type 0
IsLast test from found = MatchOption found
    ((k : ℕ) → k ≤ from → test k ≡ false)
    (λ place. (place ≤ from) × (test place ≡ true) × ((k : ℕ) → place < k → k ≤ from → test k ≡ false))

-- the greatest place from `start` on and before `end` that passes; nothing where none does
abbrev pub IsLastBetween : (ℕ → Bool) → ℕ → ℕ → Option ℕ → Type 0
IsLastBetween test start end found = MatchOption found
    ((k : ℕ) → start ≤ k → k < end → test k ≡ false)
    (λ place. (start ≤ place) × (place < end) × (test place ≡ true) × ((k : ℕ) → place < k → k < end → test k ≡ false))
