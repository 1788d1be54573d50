-- What a pass comes to know, one call after another, whatever kind of texts it is.
use Rattle.std.proofs.Common.{◌≡◌, ◌⊎◌, inl, inr, ℕ, List, Option, Some, None, sym, ◌∙◌}
use Rattle.nfg_syn.specs.Known.{Texts, IsWithin, IsSame, IsUnion, or_else}
use Rattle.nfg_work.specs.Growth.{GrowsOnlyBy}

-- what was known already
pub growth_none : (Kind : List ℕ → Type 0) (old new : Texts) → IsWithin new old → GrowsOnlyBy Kind old new
growth_none Kind old new within k t at = inl (within k t at)

-- what is the same
pub growth_same : (Kind : List ℕ → Type 0) (old new : Texts) → IsSame old new → GrowsOnlyBy Kind old new
growth_same Kind old new same k t at = inl (sym (same k) ∙ at)

further : (Kind : List ℕ → Type 0) (old mid : Texts) (k : ℕ) (t : List ℕ) → GrowsOnlyBy Kind old mid → (mid k ≡ Some t) ⊎ Kind t → (old k ≡ Some t) ⊎ Kind t
further Kind old mid k t first (inl at) = first k t at
further Kind old mid k t first (inr kind) = inr kind

-- one after another
pub growth_then : (Kind : List ℕ → Type 0) (old mid new : Texts) → GrowsOnlyBy Kind old mid → GrowsOnlyBy Kind mid new → GrowsOnlyBy Kind old new
growth_then Kind old mid new first second k t at = further Kind old mid k t first (second k t at)

-- what has grown beyond less has grown beyond more
pub growth_within : (Kind : List ℕ → Type 0) (less more new : Texts) → IsWithin less more → GrowsOnlyBy Kind less new → GrowsOnlyBy Kind more new
growth_within Kind less more new within grown = growth_then Kind more less new (growth_none Kind more less within) grown

from_either : (one other : Option (List ℕ)) (t : List ℕ) → or_else one other ≡ Some t → (one ≡ Some t) ⊎ (other ≡ Some t)
from_either (Some u) other t e = inl e
from_either None other t e = inr e

of_either : (Kind : List ℕ → Type 0) (one other : Texts) (k : ℕ) (t : List ℕ) → GrowsOnlyBy Kind one other → (one k ≡ Some t) ⊎ (other k ≡ Some t) → (one k ≡ Some t) ⊎ Kind t
of_either Kind one other k t grown (inl at) = inl at
of_either Kind one other k t grown (inr at) = grown k t at

-- what two know together that have met
pub growth_union : (Kind : List ℕ → Type 0) (one other both : Texts) → IsUnion one other both → GrowsOnlyBy Kind one other → GrowsOnlyBy Kind one both
growth_union Kind one other both union grown k t at =
    of_either Kind one other k t grown (from_either (one k) (other k) t (sym (union.entries k) ∙ at))

of_kind : (Kind More : List ℕ → Type 0) (old : Texts) (k : ℕ) (t : List ℕ) → (Kind t → More t) → (old k ≡ Some t) ⊎ Kind t → (old k ≡ Some t) ⊎ More t
of_kind Kind More old k t more (inl at) = inl at
of_kind Kind More old k t more (inr kind) = inr (more kind)

-- texts of one kind that are all of another
pub growth_as : (Kind More : List ℕ → Type 0) (old new : Texts) → ((t : List ℕ) → Kind t → More t) → GrowsOnlyBy Kind old new → GrowsOnlyBy More old new
growth_as Kind More old new more grown k t at = of_kind Kind More old k t (more t) (grown k t at)
