use Rattle.std.proofs.Common.{◌*◌, ◌-◌, length, not, int_eq}
use Rattle.nfg_lanes.proofs.RunLemmas.{RunsTo}
use Rattle.nfg_lanes.proofs.first.first_equal32.Given as goal

abbrev pub invariant-loop-block : goal.invariant-loop-block
invariant-loop-block l = RunsTo (λ y. not (int_eq y l.x)) l.a (l.block * 16)

abbrev pub invariant-loop-at : goal.invariant-loop-at
invariant-loop-at l = RunsTo (λ y. not (int_eq y l.x)) l.a l.at

abbrev pub decreases-loop-at : goal.decreases-loop-at
decreases-loop-at l = length l.a - l.at
