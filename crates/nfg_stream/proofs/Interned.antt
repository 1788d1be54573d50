-- Longer clusters that have their numbers already.
use Rattle.std.proofs.Common.{◌≡◌, ℕ, ◌<◌, List, [], ◌∷◌, length, set, replicate, slice_index_or, Bool, true, false, Some, Ok, ℤ, pos, negsuc, refl, sym, ap, subst, ◌∙◌, zero, suc, if◌then◌else◌}
use Rattle.std.proofs.lemmas.List.{get_or-set_same, get_or-set_other}
use mathlib.Core.Logic.{dite}
use native.Mathlib.Decide.{ℕ_discrete}
use Rattle.nfg_syn.specs.Known.{Texts, IsWithin}
use Rattle.nfg_syn.specs.KnownLaws.{IsWithin-refl}
use Rattle.nfg_syn.specs.Represents.{spelling}
use Rattle.nfg_syn.specs.RepresentsLaws.{spelling-grows, spelling-one}
use Rattle.nfg_syn.specs.Seen.{Seen}
use Rattle.nfg_syn.specs.Learned.{HasLearned, several, is_several}
use Rattle.nfg_stream.specs.Numbering.{AreInterned, HasNumber}
use Rattle.nfg_syn.specs.LearnedLaws.{IsSame-refl}

-- a pass that knows more
pub Interned-grows : (longer : List (List ℕ)) (old new : Texts) (interned : List ℤ) → IsWithin old new → AreInterned longer old interned → AreInterned longer new interned
Interned-grows longer old new interned within all k some = spelling-grows old new within (slice_index_or interned k (pos 0)) (slice_index_or longer k []) (all k some)

-- one number more
pub Interned-set : (longer : List (List ℕ)) (known : Texts) (interned : List ℤ) (k : ℕ) (n : ℤ) → k < length interned → AreInterned longer known interned
    → spelling known n ≡ Some (slice_index_or longer k []) → AreInterned longer known (set interned k n)
Interned-set longer known interned k n within all e j some = dite (ℕ_discrete j k)
    (λ same. subst (λ i. spelling known (slice_index_or (set interned k n) i (pos 0)) ≡ Some (slice_index_or longer i [])) (sym same)
    (ap (spelling known) (get_or-set_same interned k n (pos 0) within) ∙ e))
    (λ differ. let other = get_or-set_other interned k j n (pos 0) differ in
    ap (spelling known) other ∙ all j (λ none. some (other ∙ none)))

at-zeros : (n k : ℕ) → slice_index_or (replicate n (pos 0)) k (pos 0) ≡ pos 0
at-zeros zero k = refl
at-zeros (suc n) zero = refl
at-zeros (suc n) (suc k) = at-zeros n k

-- none has a number yet
pub Interned-none : (longer : List (List ℕ)) (known : Texts) (n : ℕ) → AreInterned longer known (replicate n (pos 0))
Interned-none longer known n k some = absurd (some (at-zeros n k))

-- what is known already is learned again by nothing
pub learned-again : (known : Texts) (n : ℤ) (cluster : List ℕ) → spelling known n ≡ Some cluster → HasLearned known (several (cluster ∷ [])) known
learned-again known (pos c) cluster e =
    subst (λ t. HasLearned known (several (t ∷ [])) known) (sym (spelling-one known c cluster e).1) (IsSame-refl known)
learned-again known (negsuc m) cluster e = by (is_several cluster)
  where
    by : (b : Bool) → HasLearned known (if b then cluster ∷ [] else []) known
    by true = (negsuc m, known, (e, λ k differ. refl), IsWithin-refl known, IsSame-refl known)
    by false = IsSame-refl known

pub known-number : (seen : Seen) (n : ℤ) (cluster : List ℕ) → spelling seen.known n ≡ Some cluster → HasNumber cluster seen seen (Ok n)
known-number seen n cluster e = (e, learned-again seen.known n cluster e)
