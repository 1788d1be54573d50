use Rattle.std.proofs.Common.{◌*◌, ◌-◌, int_eq}
use Rattle.nfg_lanes.proofs.FrontLemmas.{FrontsTo}
use Rattle.nfg_lanes.proofs.common.common_front32.Given as goal

abbrev pub invariant-loop-block : goal.invariant-loop-block
invariant-loop-block l = FrontsTo int_eq l.a l.b (l.block * 16)

abbrev pub invariant-loop-at : goal.invariant-loop-at
invariant-loop-at l = FrontsTo int_eq l.a l.b l.at

abbrev pub decreases-loop-at : goal.decreases-loop-at
decreases-loop-at l = l.len - l.at
