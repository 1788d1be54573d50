use Rattle.std.proofs.Common.{◌≤◌, ◌+◌, ◌^◌, length}
use Rattle.nfg_stream.specs.Stream.{fed_count}
use Rattle.nfg_stream.proofs.loads.feed_all.Given as goal

abbrev pub invariant-loop-rest : goal.invariant-loop-rest
invariant-loop-rest l = record { fed : fed_count l.stream + length l.rest ≤ 2 ^ 32 }

abbrev pub decreases-loop-rest : goal.decreases-loop-rest
decreases-loop-rest l = length l.rest
