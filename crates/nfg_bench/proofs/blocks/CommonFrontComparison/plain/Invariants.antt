use Rattle.std.proofs.Common.{◌≡◌, ◌+◌, ◌-◌, drop, int_eq}
use Rattle.std.specs.List.{common_prefix_len}
use Rattle.nfg_bench.proofs.blocks.CommonFrontComparison.plain.Given as goal

abbrev pub invariant-loop-at : goal.invariant-loop-at
invariant-loop-at l =
    common_prefix_len int_eq (drop l.start l.self.a.now.list) (drop l.start l.self.b.now.list)
    ≡ (l.at - l.start) + common_prefix_len int_eq (drop l.at l.self.a.now.list) (drop l.at l.self.b.now.list)
