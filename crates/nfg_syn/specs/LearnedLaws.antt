-- Laws of what a pass learns, one call after another.
use Rattle.std.proofs.Common.{◌≡◌, ℕ, List, [], ◌∷◌, ◌++◌, Some, All, ℤ, pos, negsuc, refl, sym, subst, ◌∙◌, append-nil}
use Rattle.std.proofs.lemmas.List.Elements.{filter-append, All-nil, All-cons}
use Rattle.nfg_syn.specs.Known.{Texts, IsSame, IsWithin, MapsBesides}
use Rattle.nfg_syn.specs.KnownLaws.{IsWithin-same, IsWithin-trans}
use Rattle.nfg_syn.specs.Learned.{HasLearned, several, is_several}

pub IsSame-refl : (f : Texts) → IsSame f f
IsSame-refl f k = refl

pub IsSame-trans : (f g h : Texts) → IsSame f g → IsSame g h → IsSame f h
IsSame-trans f g h first second k = second k ∙ first k

MapsBesides-from : (old other : Texts) (n : ℤ) (t : List ℕ) (new : Texts) → IsSame old other → MapsBesides other n t new → MapsBesides old n t new
MapsBesides-from old other (pos c) t new same never = absurd never
MapsBesides-from old other (negsuc m) t new same besides = (besides.0, λ k differ. besides.1 k differ ∙ same k)

-- what is learned from the same knowledge
pub HasLearned-from : (old other : Texts) (ts : List (List ℕ)) (new : Texts) → IsSame old other → HasLearned other ts new → HasLearned old ts new
HasLearned-from old other [] new same learned = IsSame-trans old other new same learned
HasLearned-from old other (t ∷ ts) new same learned =
    let n = learned.0 in
    let next = learned.1 in
    (n, next, MapsBesides-from old other n t next same learned.2, IsWithin-trans old other next (IsWithin-same old other same) learned.3, learned.4)

-- texts after texts
pub HasLearned-append : (old mid new : Texts) (ts us : List (List ℕ)) → HasLearned old ts mid → HasLearned mid us new → HasLearned old (ts ++ us) new
HasLearned-append old mid new [] us first second = HasLearned-from old mid us new first second
HasLearned-append old mid new (t ∷ ts) us first second =
    let n = first.0 in
    let next = first.1 in
    (n, next, first.2, first.3, HasLearned-append next mid new ts us first.4 second)

-- and then nothing more
pub HasLearned-same : (old mid new : Texts) (ts : List (List ℕ)) → HasLearned old ts mid → IsSame mid new → HasLearned old ts new
HasLearned-same old mid new ts learned same =
    subst (λ us. HasLearned old us new) (append-nil ts) (HasLearned-append old mid new ts [] learned same)

-- one text
pub HasLearned-one : (old new : Texts) (n : ℤ) (t : List ℕ) → MapsBesides old n t new → IsWithin old new → HasLearned old (t ∷ []) new
HasLearned-one old new n t besides within = (n, new, besides, within, IsSame-refl new)

-- clusters after clusters
pub HasLearned-several : (old mid new : Texts) (cs ds : List (List ℕ)) → HasLearned old (several cs) mid → HasLearned mid (several ds) new
    → HasLearned old (several (cs ++ ds)) new
HasLearned-several old mid new cs ds first second =
    subst (λ ts. HasLearned old ts new) (sym (filter-append is_several cs ds)) (HasLearned-append old mid new (several cs) (several ds) first second)

-- what was known stays known
pub HasLearned-keeps : (old new : Texts) (ts : List (List ℕ)) → HasLearned old ts new → IsWithin old new
HasLearned-keeps old new [] same = IsWithin-same old new same
HasLearned-keeps old new (t ∷ ts) learned =
    IsWithin-trans old learned.1 new learned.3 (HasLearned-keeps learned.1 new ts learned.4)

known_number : (old new : Texts) (n : ℤ) (t : List ℕ) → MapsBesides old n t new → (m : ℕ) × (new m ≡ Some t)
known_number old new (pos c) t never = absurd never
known_number old new (negsuc m) t besides = (m, besides.0)

-- each text that was learned is known
pub HasLearned-known : (old new : Texts) (ts : List (List ℕ)) → HasLearned old ts new → All (λ t. (m : ℕ) × (new m ≡ Some t)) ts
HasLearned-known old new [] same = All-nil (λ t. (m : ℕ) × (new m ≡ Some t))
HasLearned-known old new (t ∷ ts) learned =
    let number = known_number old learned.1 learned.0 t learned.2 in
    All-cons (λ t. (m : ℕ) × (new m ≡ Some t)) t ts (number.0, HasLearned-keeps learned.1 new ts learned.4 number.0 t number.1) (HasLearned-known learned.1 new ts learned.4)
