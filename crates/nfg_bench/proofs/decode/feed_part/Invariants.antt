use Rattle.std.proofs.Common.{◌≡◌, ℕ, ◌+◌, List, ◌++◌, length}
use Rattle.nfg_decode.specs.declared.encoding.Encoding.{Encoding}
use Rattle.nfg_decode.specs.State.{GivesNext}
use Rattle.nfg_decode.specs.Stream.{HasRead, fed_count}
use Rattle.nfg_bench.proofs.decode.feed_part.Given as goal

abbrev pub invariant-loop-rest : goal.invariant-loop-rest
invariant-loop-rest l = record {
  count : fed_count l.stream + length l.rest ≡ fed_count l.initial.stream + length l.part;
  front : List ℕ;
  parts : front ++ l.rest ≡ l.part;
  read : (e : Encoding) (fed : List ℕ) → HasRead l.initial.stream e fed → HasRead l.stream e (fed ++ front);
  codes : (e : Encoding) (fed : List ℕ) → HasRead l.initial.stream e fed → GivesNext e fed front l.initial.into l.into;
}

abbrev pub decreases-loop-rest : goal.decreases-loop-rest
decreases-loop-rest l = length l.rest
