-- A list several times over, whose seams are repaired (this project's own).
use Rattle.std.specs.Prelude.{◌≡◌, ◌⊎◌, ℕ, ◌+◌, List, ◌++◌, take, drop}
use Rattle.std.specs.List.{repeat, slice_range}
use Rattle.nfg_seam.specs.declared.error.SeamError.{SeamError}
use Rattle.nfg_seam.specs.declared.error.SeamError.TheVariants.{TooLong, ClusterLong, RowFull, NoPortion, OutOfMemory}

-- What stands before the left end, then the middle of a seam and what stands between its ends, once a seam, and then
-- what stands from the left end on.
abbrev pub woven : {A : Type 0} → (list : List A) (left right : ℕ) (middle : List A) (seams : ℕ) → List A
woven list left right middle seams =
    take left list ++ (repeat seams (middle ++ slice_range list right left) ++ drop left list)

-- the same refusal, but that a long cluster lies so many places later, or want of memory in its place
abbrev pub IsShifted : SeamError → (by : ℕ) → SeamError → Type 0
IsShifted TooLong by shifted = shifted ≡ TooLong
IsShifted (ClusterLong at) by shifted = (shifted ≡ ClusterLong (at + by)) ⊎ (shifted ≡ OutOfMemory)
IsShifted RowFull by shifted = shifted ≡ RowFull
IsShifted NoPortion by shifted = shifted ≡ NoPortion
IsShifted OutOfMemory by shifted = shifted ≡ OutOfMemory
