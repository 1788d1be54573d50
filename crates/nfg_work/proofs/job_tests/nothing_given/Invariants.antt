use Rattle.std.proofs.Common.{◌≡◌, ℕ, length, slice_get, Some}
use Rattle.nfg_work.specs.declared.outcome.Outcome.{Outcome}
use Rattle.nfg_work.specs.declared.outcome.Outcome.TheVariants.{Nothing}
use Rattle.nfg_work.proofs.job_tests.nothing_given.Given as goal

abbrev pub invariant-filling : goal.invariant-filling
invariant-filling l = (length l.outcomes.items ≡ l._k) × ((k : ℕ) (outcome : Outcome) → slice_get l.outcomes.items k ≡ Some outcome → outcome ≡ Nothing)
