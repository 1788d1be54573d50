use Rattle.std.proofs.Common.{◌≡◌, length}
use Rattle.nfg_tables.proofs.property_table.numbers.Given as goal

abbrev pub invariant-loop-c : goal.invariant-loop-c
invariant-loop-c l = length l.numbers.items ≡ l.c
