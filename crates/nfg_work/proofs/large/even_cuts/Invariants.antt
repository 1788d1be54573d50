use Rattle.std.proofs.Common.{◌≡◌, ℕ, suc, ◌*◌, ◌<◌, length, get_or}
use Rattle.nfg_work.proofs.large.even_cuts.Given as goal

abbrev pub invariant-cutting : goal.invariant-cutting
invariant-cutting l = record {
  at : l.at ≡ l.part * l._k;
  many : length l.cuts.items ≡ l._k;
  each : (j : ℕ) → j < length l.cuts.items → get_or l.cuts.items j 0 ≡ l.part * suc j;
}
