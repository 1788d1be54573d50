use Rattle.std.proofs.Common.{◌≡◌, ℕ, ◌≤◌, ◌+◌, ◌^◌, List, ◌++◌, length}
use Rattle.nfg_decode.specs.declared.encoding.Encoding.TheVariants.{Utf8}
use Rattle.nfg_stream.specs.Stream.{HasRead, fed_count}
use Rattle.nfg_bench.proofs.stream.feed_all.Given as goal

abbrev pub invariant-loop-rest : goal.invariant-loop-rest
invariant-loop-rest l = record {
  count : fed_count l.stream + length l.rest ≤ 2 ^ 32;
  front : List ℕ;
  parts : front ++ l.rest ≡ l.bytes;
  read : (fed : List ℕ) → HasRead l.initial.stream Utf8 fed → HasRead l.stream Utf8 (fed ++ front);
}

abbrev pub decreases-loop-rest : goal.decreases-loop-rest
decreases-loop-rest l = length l.rest
