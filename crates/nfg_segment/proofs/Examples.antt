-- Worked rows of the definitions.
use Rattle.std.proofs.Common.{◌≡◌, true, false, [], ◌∷◌, Some, None, refl}
use Rattle.nfg_text.specs.Plain.{singles}
use Rattle.nfg_segment.specs.Given.{nothing, first_or, with_head, with_clusters}
use Rattle.nfg_segment.specs.Held.{next, next_all, closed, as_list}
use Rattle.nfg_segment.specs.Kept.{head_of}

-- clusters are given one after another
two_are_given : with_clusters nothing ((0xE9 ∷ []) ∷ (0x71 ∷ 0x323 ∷ []) ∷ []) ≡ record { heads = (0xE9 ∷ []) ∷ (0x71 ∷ 0x323 ∷ []) ∷ []; first_long = None }
two_are_given = refl

singles_are_given : with_clusters nothing (singles (0x61 ∷ 0x62 ∷ [])) ≡ record { heads = (0x61 ∷ []) ∷ (0x62 ∷ []) ∷ []; first_long = None }
singles_are_given = refl

-- the first long cluster stays the first
a_long_one_is_found : (with_head (with_head nothing (0x61 ∷ []) false) (0x62 ∷ []) true).first_long ≡ Some 1
a_long_one_is_found = refl

a_later_one_is_not : (with_head (with_head (with_head nothing (0x61 ∷ []) true) (0x62 ∷ []) false) (0x63 ∷ []) true).first_long ≡ Some 0
a_later_one_is_not = refl

none_is_found : first_or None false 7 ≡ None
none_is_found = refl

-- no cluster is open at first
nothing_ends : closed [] 0x61 ≡ []
nothing_ends = refl

a_first_code_point_opens_one : next [] 0x61 ≡ 0x61 ∷ []
a_first_code_point_opens_one = refl

nothing_follows : next_all (0x61 ∷ []) [] ≡ 0x61 ∷ []
nothing_follows = refl

no_cluster_is_no_list : as_list [] ≡ []
no_cluster_is_no_list = refl

-- numbers below 2^31 are code points, and the others count longer clusters
a_code_point : head_of ((0x71 ∷ 0x323 ∷ []) ∷ []) 0x61 ≡ 0x61 ∷ []
a_code_point = refl

a_longer_cluster : head_of ((0x71 ∷ 0x323 ∷ []) ∷ []) 0x8000_0000 ≡ 0x71 ∷ 0x323 ∷ []
a_longer_cluster = refl
