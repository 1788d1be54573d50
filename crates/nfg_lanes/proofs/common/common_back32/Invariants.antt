use Rattle.std.proofs.Common.{◌-◌, int_eq, reverse}
use Rattle.nfg_lanes.proofs.FrontLemmas.{FrontsTo}
use Rattle.nfg_lanes.proofs.common.common_back32.Given as goal

abbrev pub invariant-loop-count : goal.invariant-loop-count
invariant-loop-count l = FrontsTo int_eq (reverse l.a) (reverse l.b) l.count

abbrev pub decreases-loop-count : goal.decreases-loop-count
decreases-loop-count l = l.len - l.count

abbrev pub invariant-loop-count-2 : goal.invariant-loop-count-2
invariant-loop-count-2 l = FrontsTo int_eq (reverse l.a) (reverse l.b) l.count

abbrev pub decreases-loop-count-2 : goal.decreases-loop-count-2
decreases-loop-count-2 l = l.len - l.count
