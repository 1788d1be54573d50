use Rattle.std.proofs.Common.{◌≡◌, ℕ, ◌≤◌, ◌+◌, ◌%◌, ◌^◌, List, ◌++◌, length}
use Rattle.nfg_decode.specs.Encoding.{decoded_prefix}
use Rattle.nfg_decode.specs.Stream.{HasRead, fed_count}
use Rattle.nfg_bench.proofs.decode.decode.Given as goal

abbrev pub invariant-loop-rest : goal.invariant-loop-rest
invariant-loop-rest l = record {
  count : fed_count l.stream + length l.rest ≤ 2 ^ 32;
  front : List ℕ;
  parts : front ++ l.rest ≡ l.bytes;
  read : HasRead l.stream l.feeding.encoding front;
  codes : l.codes ≡ length (decoded_prefix l.feeding.encoding front) % 2 ^ 64;
}

abbrev pub decreases-loop-rest : goal.decreases-loop-rest
decreases-loop-rest l = length l.rest
