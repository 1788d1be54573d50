use Rattle.std.proofs.Common.{◌≡◌, ◌+◌, drop, int_eq, not}
use Rattle.std.specs.List.{prefix_len}
use Rattle.nfg_bench.proofs.plain.first_equal32.Given as goal

abbrev pub invariant-loop-at : goal.invariant-loop-at
invariant-loop-at l =
    prefix_len (λ y. not (int_eq y l.x)) l.a ≡ l.at + prefix_len (λ y. not (int_eq y l.x)) (drop l.at l.a)
