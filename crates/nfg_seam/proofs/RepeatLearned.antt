-- Numbers for clusters, one after another.
use Rattle.std.proofs.Common.{◌≡◌, ℕ, Bool, true, false, if◌then◌else◌, List, [], ◌∷◌, ◌++◌, Some, None, ℤ, pos, negsuc, sym, refl, subst, append-nil}
use Rattle.nfg_syn.specs.Known.{Texts, IsWithin}
use Rattle.nfg_syn.specs.Learned.{HasLearned, StopsAt, StopsSomewhere, several, is_several, first_long}
use Rattle.nfg_syn.specs.LearnedLaws.{IsSame-refl, HasLearned-same, HasLearned-several}
use Rattle.nfg_syn.specs.Represents.{Represents, spelling}
use Rattle.nfg_syn.specs.RepresentsLaws.{Represents-grows, Represents-push, spelling-one}
use Rattle.nfg_syn.specs.Seen.{Seen}
use Rattle.nfg_seam.specs.declared.error.SeamError.{SeamError}
use Rattle.nfg_seam.specs.declared.error.SeamError.TheVariants.{TooLong, ClusterLong, RowFull, NoPortion, OutOfMemory}
use Rattle.nfg_seam.specs.Numbered.{IsNumbered, IsUnnumbered, IsDenied, AreNumbered, AreRefused}

pub Numbered-none : (known : Texts) (numbers : List ℤ) → numbers ≡ [] → AreNumbered [] known known numbers
Numbered-none known numbers none = record {
  represents = subst (λ ns. Represents known ns []) (sym none) tt;
  learned = IsSame-refl known;
}

-- one cluster more
pub Numbered-push : (front : List (List ℕ)) (cluster : List ℕ) (old mid new : Texts) (before after : List ℤ) (n : ℤ)
    → IsWithin mid new → AreNumbered front old mid before → after ≡ before ++ n ∷ [] → IsNumbered cluster mid new n
    → AreNumbered (front ++ cluster ∷ []) old new after
Numbered-push front cluster old mid new before after n within so_far pushed number = record {
  represents =
      subst (λ ns. Represents new ns (front ++ cluster ∷ [])) (sym pushed)
      (Represents-push new before front n cluster (Represents-grows mid new within before front so_far.represents) number.0);
  learned = HasLearned-several old mid new front (cluster ∷ []) so_far.learned number.1;
}

stops_at : (clusters front : List (List ℕ)) (cluster : List ℕ) (rest : List (List ℕ)) (old mid new : Texts) (Reason : List ℕ → Type 0)
    → clusters ≡ front ++ cluster ∷ rest → first_long clusters ≡ None → HasLearned old (several front) mid → IsDenied cluster mid new (Reason cluster)
    → StopsAt clusters old new Reason
stops_at clusters front cluster rest old mid new Reason parts short learned refused = record {
  front = front;
  cluster = cluster;
  rest = rest;
  parts = parts;
  short = short;
  needs_number = refused.needs_number;
  unknown = refused.unknown;
  reason = refused.reason;
  learned = HasLearned-same old mid new (several front) learned refused.same;
}

-- a cluster gets no number
pub Refused-at : (clusters front : List (List ℕ)) (cluster : List ℕ) (rest : List (List ℕ)) (old mid new : Seen) (numbers : List ℤ) (error : SeamError)
    → clusters ≡ front ++ cluster ∷ rest → first_long clusters ≡ None → AreNumbered front old.known mid.known numbers
    → IsUnnumbered cluster mid new error → AreRefused clusters old new error
Refused-at clusters front cluster rest old mid new numbers TooLong parts short so_far never = absurd never
Refused-at clusters front cluster rest old mid new numbers (ClusterLong at) parts short so_far never = absurd never
Refused-at clusters front cluster rest old mid new numbers RowFull parts short so_far refused =
    stops_at clusters front cluster rest old.known mid.known new.known new.full parts short so_far.learned refused
Refused-at clusters front cluster rest old mid new numbers NoPortion parts short so_far refused =
    stops_at clusters front cluster rest old.known mid.known new.known (λ _. new.drained) parts short so_far.learned refused
Refused-at clusters front cluster rest old mid new numbers OutOfMemory parts short so_far same =
    record { front = front; rest = cluster ∷ rest; parts = parts; learned = HasLearned-same old.known mid.known new.known (several front) so_far.learned same }

-- memory is wanting before anything is learned
pub Refused-none : (clusters : List (List ℕ)) (old : Texts) → StopsSomewhere clusters old old
Refused-none clusters old = record { front = []; rest = clusters; parts = refl; learned = IsSame-refl old }

-- or after all is
pub Refused-last : (clusters : List (List ℕ)) (old new : Texts) → HasLearned old (several clusters) new → StopsSomewhere clusters old new
Refused-last clusters old new learned = record { front = clusters; rest = []; parts = sym (append-nil clusters); learned = learned }

-- what is known already is learned again by nothing
again_one : (known : Texts) (n : ℤ) (cluster : List ℕ) → spelling known n ≡ Some cluster → HasLearned known (several (cluster ∷ [])) known
again_one known (pos c) cluster e =
    subst (λ t. HasLearned known (several (t ∷ [])) known) (sym (spelling-one known c cluster e).1) (IsSame-refl known)
again_one known (negsuc m) cluster e = by (is_several cluster)
  where
    by : (b : Bool) → HasLearned known (if b then cluster ∷ [] else []) known
    by true = (negsuc m, known, (e, λ k differ. refl), λ k t same. same, IsSame-refl known)
    by false = IsSame-refl known

pub Learned-again : (known : Texts) (ns : List ℤ) (cs : List (List ℕ)) → Represents known ns cs → HasLearned known (several cs) known
Learned-again known [] [] are = IsSame-refl known
Learned-again known [] (c ∷ cs) are = absurd are
Learned-again known (n ∷ ns) [] are = absurd are
Learned-again known (n ∷ ns) (c ∷ cs) are =
    HasLearned-several known known known (c ∷ []) cs (again_one known n c are.0) (Learned-again known ns cs are.1)
