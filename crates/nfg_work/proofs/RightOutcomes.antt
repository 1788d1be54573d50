-- Outcomes stay right where more is known, and with the outcome of one more job.
use Rattle.std.proofs.Common.{◌≡◌, ◌⊎◌, inl, inr, ℕ, zero, suc, List, [], ◌∷◌, length, slice_get, Some, refl, sym, ap, ◌∙◌, subst}
use Rattle.std.proofs.Math.ListN.{set, length-set}
use Rattle.nfg_syn.specs.Known.{Texts, IsWithin}
use Rattle.nfg_script.specs.declared.command.Command.{Command}
use Rattle.nfg_script.specs.declared.command.Command.TheVariants.{Find}
use Rattle.nfg_script.specs.Script.{NumberedCommand}
use Rattle.nfg_work.specs.declared.outcome.Outcome.{Outcome}
use Rattle.nfg_work.specs.declared.outcome.Outcome.TheVariants.{Nothing, Made, Found}
use Rattle.nfg_work.specs.declared.output.FileRead.{FileRead}
use Rattle.nfg_work.specs.Reach.{Reached}
use Rattle.nfg_work.specs.Outcomes.{reached_at, IsOutcomeOf, IsRightAt, AreRight}
use Rattle.nfg_work.proofs.Strings.{IsStringOf-grows}

-- more knowledge changes no outcome
IsOutcomeOf-grows : (old new : Texts) → IsWithin old new → (reached : Reached) (numbered : NumberedCommand) (command : Command) (outcome : Outcome)
    → IsOutcomeOf old reached numbered command outcome → IsOutcomeOf new reached numbered command outcome
IsOutcomeOf-grows old new within reached numbered command Nothing is = tt
IsOutcomeOf-grows old new within reached numbered command (Made string) is = (is.0, is.1, IsStringOf-grows old new within string is.0 is.2)
IsOutcomeOf-grows old new within reached numbered (Find a b at) (Found place) is = is
IsOutcomeOf-grows old new within reached numbered command outcome is = is

pub IsRightAt-grows : (old new : Texts) → IsWithin old new → (script : List NumberedCommand) (reads : List FileRead) (k : ℕ) (outcome : Outcome)
    → IsRightAt old script reads k outcome → IsRightAt new script reads k outcome
IsRightAt-grows old new within script reads k outcome is = λ numbered at.
    IsOutcomeOf-grows old new within (reached_at script reads k) numbered numbered.command outcome (is numbered at)

-- what is right stays so
pub AreRight-grows : (old new : Texts) → IsWithin old new → (script : List NumberedCommand) (reads : List FileRead) (outcomes : List Outcome)
    → AreRight old script reads outcomes → AreRight new script reads outcomes
AreRight-grows old new within script reads outcomes are = record {
  as_many = are.as_many;
  right = λ k outcome at. IsRightAt-grows old new within script reads k outcome (are.right k outcome at);
}

-- nothing is always right
pub AreRight-none : (known : Texts) (script : List NumberedCommand) (reads : List FileRead) (outcomes : List Outcome) → length outcomes ≡ length script
    → ((k : ℕ) (outcome : Outcome) → slice_get outcomes k ≡ Some outcome → outcome ≡ Nothing) → AreRight known script reads outcomes
AreRight-none known script reads outcomes many none = record {
  as_many = many;
  right = λ k outcome here numbered there.
      subst (λ o. IsOutcomeOf known (reached_at script reads k) numbered numbered.command o) (sym (none k outcome here)) tt;
}

slice_get-set : (outcomes : List Outcome) (i k : ℕ) (new outcome : Outcome) → slice_get (set outcomes i new) k ≡ Some outcome
    → (slice_get outcomes k ≡ Some outcome) ⊎ ((k ≡ i) × (new ≡ outcome))
slice_get-set [] i k new outcome e = inl e
slice_get-set (o ∷ outcomes) zero zero new outcome e = inr (refl, cc)
slice_get-set (o ∷ outcomes) zero (suc k) new outcome e = inl e
slice_get-set (o ∷ outcomes) (suc i) zero new outcome e = inl e
slice_get-set (o ∷ outcomes) (suc i) (suc k) new outcome e = by (slice_get-set outcomes i k new outcome e)
  where
    by : (slice_get outcomes k ≡ Some outcome) ⊎ ((k ≡ i) × (new ≡ outcome)) → (slice_get outcomes k ≡ Some outcome) ⊎ ((suc k ≡ suc i) × (new ≡ outcome))
    by (inl before) = inl before
    by (inr here) = inr (ap (λ n. suc n) here.0, here.1)

-- the outcome of one job more
pub AreRight-set : (known : Texts) (script : List NumberedCommand) (reads : List FileRead) (outcomes : List Outcome) (i : ℕ) (new : Outcome)
    → AreRight known script reads outcomes → IsRightAt known script reads i new → AreRight known script reads (set outcomes i new)
AreRight-set known script reads outcomes i new are right = record {
  as_many = length-set outcomes i new ∙ are.as_many;
  right = λ k outcome here. by k outcome (slice_get-set outcomes i k new outcome here);
}
  where
    by : (k : ℕ) (outcome : Outcome) → (slice_get outcomes k ≡ Some outcome) ⊎ ((k ≡ i) × (new ≡ outcome)) → IsRightAt known script reads k outcome
    by k outcome (inl before) = are.right k outcome before
    by k outcome (inr here) = subst (λ j. IsRightAt known script reads j outcome) (sym here.0) (subst (λ o. IsRightAt known script reads i o) here.1 right)
