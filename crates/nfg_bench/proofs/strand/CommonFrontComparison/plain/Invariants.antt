use Rattle.std.proofs.Common.{◌≡◌, ◌+◌, ◌≤◌, ◌^◌, length, int_eq}
use Rattle.std.specs.List.{common_prefix_len}
use Rattle.nfg_bench.proofs.strand.CommonFrontComparison.plain.Given as goal

abbrev pub invariant-loop-x : goal.invariant-loop-x
invariant-loop-x l = record {
  left : l.at + length l.x-iterator.a ≡ length l.self.a.now.graphemes;
  right : l.at + length l.x-iterator.b ≡ length l.self.b.now.graphemes;
  limit : length l.self.a.now.graphemes ≤ 2 ^ 40;
  rest :
      common_prefix_len int_eq l.self.a.now.graphemes l.self.b.now.graphemes
      ≡ l.at + common_prefix_len int_eq l.x-iterator.a l.x-iterator.b;
}
