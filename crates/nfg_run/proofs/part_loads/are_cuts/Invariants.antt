use Rattle.std.proofs.Common.{ℕ, suc, ◌<◌, ◌≤◌, get_or}
use Rattle.nfg_run.proofs.part_loads.are_cuts.Given as goal

abbrev pub invariant-cuts : goal.invariant-cuts
invariant-cuts l = record {
  ascending : (k : ℕ) → suc k < l.k → get_or l.cuts k 0 ≤ get_or l.cuts (suc k) 0;
  within : (k : ℕ) → k < l.k → get_or l.cuts k 0 ≤ l.count;
}
