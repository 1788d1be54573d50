use Rattle.std.proofs.Common.{◌*◌, ◌+◌, ◌-◌, length}
use Rattle.nfg_passes.specs.Unsettled.{unsettled_marks}
use Rattle.nfg_passes.proofs.BlockRuns.{IsClearTo}
use Rattle.nfg_passes.proofs.unsettled.first_unsettled.Given as goal

abbrev pub invariant-loop-block : goal.invariant-loop-block
invariant-loop-block l = IsClearTo (unsettled_marks l.ids) (l.block * 32 + 1)

abbrev pub invariant-loop-at : goal.invariant-loop-at
invariant-loop-at l = IsClearTo (unsettled_marks l.ids) l.at

abbrev pub decreases-loop-at : goal.decreases-loop-at
decreases-loop-at l = length l.ids - l.at
