use Rattle.std.proofs.Common.{◌≡◌, ◌+◌, drop, int_eq}
use Rattle.std.specs.List.{common_prefix_len}
use Rattle.nfg_bench.proofs.plain.common_front32.Given as goal

abbrev pub invariant-loop-at : goal.invariant-loop-at
invariant-loop-at l = common_prefix_len int_eq l.a l.b ≡ l.at + common_prefix_len int_eq (drop l.at l.a) (drop l.at l.b)
