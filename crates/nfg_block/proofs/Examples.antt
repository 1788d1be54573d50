-- Worked rows of the definitions of a block.
use Rattle.std.proofs.Common.{◌≡◌, pos, negsuc, true, false, Some, None, [], ◌∷◌, int_eq, refl}
use Rattle.std.specs.List.{position_from, slice_range}
use Rattle.nfg_block.specs.Block.{block_of}

-- a, CR LF
ascii : block_of (pos 97 ∷ negsuc 0 ∷ []) ≡ record { list = pos 97 ∷ negsuc 0 ∷ []; is_narrow = true }
ascii = refl

-- one letter past ASCII makes the block wide
latin : (block_of (pos 97 ∷ pos 233 ∷ [])).is_narrow ≡ false
latin = refl

-- and so does a synthetic
synthetic : (block_of (pos 97 ∷ negsuc 1 ∷ [])).is_narrow ≡ false
synthetic = refl

empty : (block_of []).is_narrow ≡ true
empty = refl

-- 7 is sought from index 1 to before 1, and to before 2
no_room : position_from (λ y. int_eq y (pos 7)) 1 (slice_range (pos 7 ∷ pos 7 ∷ []) 1 1) ≡ None
no_room = refl

second : position_from (λ y. int_eq y (pos 7)) 1 (slice_range (pos 7 ∷ pos 7 ∷ []) 1 2) ≡ Some 1
second = refl
