use Rattle.std.proofs.Common.{◌≡◌, ◌+◌, drop, int_eq, reverse}
use Rattle.std.specs.List.{common_prefix_len}
use Rattle.nfg_bench.proofs.plain.common_back32.Given as goal

abbrev pub invariant-loop-count : goal.invariant-loop-count
invariant-loop-count l =
    common_prefix_len int_eq (reverse l.a) (reverse l.b)
    ≡ l.count + common_prefix_len int_eq (drop l.count (reverse l.a)) (drop l.count (reverse l.b))
