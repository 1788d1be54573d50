use Rattle.std.proofs.Common.{◌≡◌, length}
use Rattle.nfg_tables.proofs.ids.ids.Given as goal

abbrev pub invariant-loop-c : goal.invariant-loop-c
invariant-loop-c l = length l.ids.items ≡ l.c
