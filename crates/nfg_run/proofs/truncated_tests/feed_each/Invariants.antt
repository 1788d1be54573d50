use Rattle.std.proofs.Common.{◌≤◌, ◌+◌}
use Rattle.nfg_decode.specs.Stream.{fed_count}
use Rattle.nfg_run.proofs.truncated_tests.feed_each.Given as goal

abbrev pub invariant-bytes : goal.invariant-bytes
invariant-bytes g l = fed_count l.stream ≤ fed_count l.initial.stream + l.k-counter
