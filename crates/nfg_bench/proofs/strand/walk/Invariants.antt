use Rattle.std.proofs.Common.{◌≡◌, ◌+◌, ◌≤◌, ◌^◌, length, not, int_eq, negsuc}
use Rattle.std.specs.List.{prefix_len}
use Rattle.nfg_bench.proofs.strand.walk.Given as goal

abbrev pub invariant-loop-grapheme : goal.invariant-loop-grapheme
invariant-loop-grapheme l = record {
  place : l.at + length l.grapheme-iterator ≡ length l.string.graphemes;
  limit : length l.string.graphemes ≤ 2 ^ 40;
  rest :
      prefix_len (λ y. not (int_eq y (negsuc 0))) l.string.graphemes
      ≡ l.at + prefix_len (λ y. not (int_eq y (negsuc 0))) l.grapheme-iterator;
}
