use Rattle.std.proofs.Common.{◌≤◌, length}
use Rattle.nfg_segment.proofs.settled_run.last_safe.Given as goal

abbrev pub invariant-loop-at : goal.invariant-loop-at
invariant-loop-at l = l.at ≤ length l.ids

abbrev pub decreases-loop-at : goal.decreases-loop-at
decreases-loop-at l = l.at
