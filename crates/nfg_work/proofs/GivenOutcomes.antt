-- What was given stays right under more knowledge, and what is known grows by what the script can reach.
use Rattle.std.proofs.Common.{◌≡◌, ℕ, List, [], ◌∷◌, ◌++◌, Option, Some, None, refl, ap, ◌∙◌}
use Rattle.std.proofs.lemmas.List.Elements.{All-weaker, All-push}
use Rattle.nfg_syn.specs.Known.{Texts, IsWithin, IsUnion, or_else}
use Rattle.nfg_script.specs.Script.{NumberedCommand}
use Rattle.nfg_work.specs.declared.output.FileRead.{FileRead}
use Rattle.nfg_work.specs.declared.worker.Given.{Given}
use Rattle.nfg_work.specs.Reach.{IsReachable}
use Rattle.nfg_work.specs.Outcomes.{IsRightAt, GrowsBy}
use Rattle.nfg_work.specs.Workers.{AreGivenRight, HasGiven}
use Rattle.nfg_work.proofs.Growth.{growth_none, growth_then, growth_within, growth_union}
use Rattle.nfg_work.proofs.RightOutcomes.{IsRightAt-grows}

pub AreGivenRight-grows : (old new : Texts) → IsWithin old new → (script : List NumberedCommand) (reads : List FileRead) (given : List Given)
    → AreGivenRight old script reads given → AreGivenRight new script reads given
AreGivenRight-grows old new within script reads given are =
    All-weaker (λ one. IsRightAt old script reads one.command one.outcome) (λ one. IsRightAt new script reads one.command one.outcome)
    (λ one. IsRightAt-grows old new within script reads one.command one.outcome) given are

-- ---- what the script can reach

pub GrowsBy-same : (script : List NumberedCommand) (reads : List FileRead) (old new : Texts) → IsWithin new old → GrowsBy script reads old new
GrowsBy-same script reads = growth_none (IsReachable script reads)

pub GrowsBy-trans : (script : List NumberedCommand) (reads : List FileRead) (old mid new : Texts) → GrowsBy script reads old mid → GrowsBy script reads mid new
    → GrowsBy script reads old new
GrowsBy-trans script reads = growth_then (IsReachable script reads)

-- what has grown beyond less has grown beyond more
pub GrowsBy-within : (script : List NumberedCommand) (reads : List FileRead) (less more new : Texts) → IsWithin less more → GrowsBy script reads less new
    → GrowsBy script reads more new
GrowsBy-within script reads = growth_within (IsReachable script reads)

-- a pass that has met one that grew has grown so too
pub GrowsBy-union : (script : List NumberedCommand) (reads : List FileRead) (one other both : Texts) → IsUnion one other both → GrowsBy script reads one other
    → GrowsBy script reads one both
GrowsBy-union script reads = growth_union (IsReachable script reads)

union_with : (one other : Option (List ℕ)) (t : List ℕ) → ((u v : List ℕ) → one ≡ Some u → other ≡ Some v → u ≡ v) → other ≡ Some t → or_else one other ≡ Some t
union_with (Some u) other t agree e = ap (λ x. Some x) (agree u t refl e)
union_with None other t agree e = e

-- what was known to the pass that was met is known
pub IsWithin-met : (one other both : Texts) → IsUnion one other both → IsWithin other both
IsWithin-met one other both union k t at = union.entries k ∙ union_with (one k) (other k) t (union.agree k) at

-- one job more has given an outcome
pub HasGiven-push : (script : List NumberedCommand) (reads : List FileRead) (old new : Texts) (given : List Given) (one : Given) → IsWithin old new
    → GrowsBy script reads old new → AreGivenRight old script reads given → IsRightAt new script reads one.command one.outcome
    → HasGiven script reads old new (given ++ one ∷ [])
HasGiven-push script reads old new given one within grown are right = record {
  grown = grown;
  right = All-push (λ one. IsRightAt new script reads one.command one.outcome) given one (AreGivenRight-grows old new within script reads given are) right;
}
