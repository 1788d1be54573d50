use Rattle.std.proofs.Common.{◌*◌, ◌-◌, length}
use Rattle.std.specs.Char.{is_ascii}
use Rattle.nfg_lanes.proofs.RunLemmas.{RunsTo}
use Rattle.nfg_lanes.proofs.ascii.ascii_run.Given as goal

abbrev pub invariant-loop-block : goal.invariant-loop-block
invariant-loop-block l = RunsTo is_ascii l.bytes (l.block * 32)

abbrev pub invariant-loop-at : goal.invariant-loop-at
invariant-loop-at l = RunsTo is_ascii l.bytes l.at

abbrev pub decreases-loop-at : goal.decreases-loop-at
decreases-loop-at l = length l.bytes - l.at
