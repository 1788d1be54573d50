-- An outcome that was taken leaves nothing, and the values that commands give are reached.
use Rattle.std.proofs.Common.{◌≡◌, ℕ, zero, suc, ◌≤◌, inl, inr, true, List, [], ◌∷◌, ◌++◌, length, take, bytes_eq, slice_get, slice_set, Option, Some, None, refl, sym, ◌∙◌, subst}
use Rattle.std.specs.Set.{is_member}
use Rattle.nfg_syn.specs.Known.{Texts, IsKnowledge}
use Rattle.nfg_script.specs.declared.command.Command.{Command}
use Rattle.nfg_script.specs.declared.command.Command.TheVariants.{Load, Text, Cat, Sub, Rep, Find, Rfind, Eq, Cmp, Len, Show, Shape, Put}
use Rattle.nfg_script.specs.Script.{NumberedCommand}
use Rattle.nfg_work.specs.declared.outcome.Outcome.{Outcome}
use Rattle.nfg_work.specs.declared.outcome.Outcome.TheVariants.{Nothing}
use Rattle.nfg_work.specs.declared.output.FileRead.{FileRead}
use Rattle.nfg_work.specs.Values.{Value}
use Rattle.nfg_work.specs.Reach.{Reached, reach_step, reached_from, values_of, IsOfValue, IsReachable}
use Rattle.nfg_work.specs.Outcomes.{reached_at, first_reached, given_value, AreRight, GrowsBy}
use Rattle.nfg_work.specs.Given.{IsClusterOf, GrowsWith}
use Rattle.nfg_work.proofs.RightOutcomes.{AreRight-set}

-- ---- outcomes

-- nothing is right too
pub AreRight-taken : (known : Texts) (script : List NumberedCommand) (reads : List FileRead) (outcomes : List Outcome) (k : ℕ)
    → AreRight known script reads outcomes → AreRight known script reads (slice_set outcomes k Nothing)
AreRight-taken known script reads outcomes k are = AreRight-set known script reads outcomes k Nothing are (λ numbered here. tt)

-- ---- values

-- one command more
pub reached_next : (reached : Reached) (lines : List NumberedCommand) (k : ℕ) (numbered : NumberedCommand) → slice_get lines k ≡ Some numbered
    → reached_from reached (take (suc k) lines) ≡ reach_step (reached_from reached (take k lines)) numbered numbered.command
reached_next reached [] k numbered e = cc
reached_next reached (x ∷ lines) zero numbered e = let same : x ≡ numbered = cc in (λ i. reach_step reached (same i) (same i).command)
reached_next reached (x ∷ lines) (suc k) numbered e = reached_next (reach_step reached x x.command) lines k numbered e

of_last : (values : List (Option Value)) (found : Option Value) (value : Value) (t : List ℕ) → found ≡ Some value → is_member bytes_eq value.clusters t ≡ true
    → IsOfValue (values ++ found ∷ []) t
of_last [] None value t e holds = cc
of_last [] (Some v) value t e holds = let same : v ≡ value = cc in inl ((λ i. is_member bytes_eq (same i).clusters t) ∙ holds)
of_last (None ∷ values) found value t e holds = of_last values found value t e holds
of_last (Some v ∷ values) found value t e holds = inr (of_last values found value t e holds)

stays_front : (xs ys : List (Option Value)) (t : List ℕ) → IsOfValue xs t → IsOfValue (xs ++ ys) t
stays_front [] ys t is = absurd is
stays_front (None ∷ xs) ys t is = stays_front xs ys t is
stays_front (Some v ∷ xs) ys t (inl here) = inl here
stays_front (Some v ∷ xs) ys t (inr there) = inr (stays_front xs ys t there)

-- the value that a command gives is one of those behind it
given_step : (reached : Reached) (numbered : NumberedCommand) (command : Command) (value : Value) (t : List ℕ) → given_value reached numbered command ≡ Some value
    → is_member bytes_eq value.clusters t ≡ true → IsOfValue (reach_step reached numbered command).values t
given_step reached numbered (Load name e) value t is holds = of_last reached.values _ value t is holds
given_step reached numbered (Text name) value t is holds = of_last reached.values _ value t is holds
given_step reached numbered (Cat name a b) value t is holds = of_last reached.values _ value t is holds
given_step reached numbered (Sub name a start count) value t is holds = of_last reached.values _ value t is holds
given_step reached numbered (Rep name a count) value t is holds = of_last reached.values _ value t is holds
given_step reached numbered (Find a b at) value t is holds = cc
given_step reached numbered (Rfind a b at) value t is holds = cc
given_step reached numbered (Eq a b) value t is holds = cc
given_step reached numbered (Cmp a b) value t is holds = cc
given_step reached numbered (Len a) value t is holds = cc
given_step reached numbered (Show a) value t is holds = cc
given_step reached numbered (Shape a) value t is holds = cc
given_step reached numbered (Put a enc) value t is holds = cc

-- no value is lost
step_stays : (reached : Reached) (numbered : NumberedCommand) (command : Command) (t : List ℕ) → IsOfValue reached.values t
    → IsOfValue (reach_step reached numbered command).values t
step_stays reached numbered (Load name e) t is = stays_front reached.values _ t is
step_stays reached numbered (Text name) t is = stays_front reached.values _ t is
step_stays reached numbered (Cat name a b) t is = stays_front reached.values _ t is
step_stays reached numbered (Sub name a start count) t is = stays_front reached.values _ t is
step_stays reached numbered (Rep name a count) t is = stays_front reached.values _ t is
step_stays reached numbered (Find a b at) t is = is
step_stays reached numbered (Rfind a b at) t is = is
step_stays reached numbered (Eq a b) t is = is
step_stays reached numbered (Cmp a b) t is = is
step_stays reached numbered (Len a) t is = is
step_stays reached numbered (Show a) t is = is
step_stays reached numbered (Shape a) t is = is
step_stays reached numbered (Put a enc) t is = is

lines_stay : (reached : Reached) (lines : List NumberedCommand) (t : List ℕ) → IsOfValue reached.values t → IsOfValue (reached_from reached lines).values t
lines_stay reached [] t is = is
lines_stay reached (x ∷ lines) t is = lines_stay (reach_step reached x x.command) lines t (step_stays reached x x.command t is)

given_reaches : (reached : Reached) (lines : List NumberedCommand) (k : ℕ) (numbered : NumberedCommand) (value : Value) (t : List ℕ) → slice_get lines k ≡ Some numbered
    → given_value (reached_from reached (take k lines)) numbered numbered.command ≡ Some value → is_member bytes_eq value.clusters t ≡ true
    → IsOfValue (reached_from reached lines).values t
given_reaches reached [] k numbered value t e given holds = cc
given_reaches reached (x ∷ lines) zero numbered value t e given holds =
    let same : x ≡ numbered = cc in
    let P : NumberedCommand → Type 0 = λ n. IsOfValue (reach_step reached n n.command).values t in
    lines_stay (reach_step reached x x.command) lines t (subst P (sym same) (given_step reached numbered numbered.command value t given holds))
given_reaches reached (x ∷ lines) (suc k) numbered value t e given holds = given_reaches (reach_step reached x x.command) lines k numbered value t e given holds

-- a cluster of the value that a command gives is reachable
pub given_reachable : (script : List NumberedCommand) (reads : List FileRead) (k : ℕ) (numbered : NumberedCommand) (t : List ℕ) → slice_get script k ≡ Some numbered
    → 2 ≤ length t → IsClusterOf (given_value (reached_at script reads k) numbered numbered.command) t → IsReachable script reads t
unfolding values_of
given_reachable script reads k numbered t at several is = by (given_value (reached_at script reads k) numbered numbered.command) refl is
  where
    by : (given : Option Value) → given_value (reached_at script reads k) numbered numbered.command ≡ given → IsClusterOf given t → IsReachable script reads t
    by None e is = absurd is
    by (Some value) e is = record { several = several; source = inl (given_reaches (first_reached reads) script k numbered value t at e is) }

-- what is known besides stays reachable
pub GrowsBy-next : (script : List NumberedCommand) (reads : List FileRead) (k size : ℕ) (numbered : NumberedCommand) (start old new places : Texts) → slice_get script k ≡ Some numbered
    → IsKnowledge size new places → GrowsBy script reads start old → GrowsWith (given_value (reached_at script reads k) numbered numbered.command) old new
    → GrowsBy script reads start new
GrowsBy-next script reads k size numbered start old new places at knows before grows = λ m t e. elim (grows m t e) [
  | inl known ↦ before m t known
  | inr is ↦ inr (given_reachable script reads k numbered t at (knows.numbers m t e).1.several is)
]
