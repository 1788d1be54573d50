use Rattle.std.proofs.Common.{◌≡◌, length}
use Rattle.std.specs.Prelude.{All}
use Rattle.nfg_work.specs.declared.outcome.Outcome.TheVariants.{Nothing}
use Rattle.nfg_work.proofs.ahead.no_outcomes.Given as goal

abbrev pub invariant-filling : goal.invariant-filling
invariant-filling l = record {
  many : length l.outcomes.items ≡ l._k;
  nothing : All (λ outcome. outcome ≡ Nothing) l.outcomes.items;
}
