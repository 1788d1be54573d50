use Rattle.std.proofs.Common.{◌+◌, ◌-◌, ◌*◌, length}
use Rattle.nfg_ops.specs.Cuts.{number_at, IsScan}
use Rattle.nfg_ops.specs.Precedes.{Precedes}
use Rattle.nfg_ops.proofs.suffix.greatest_suffix.Given as goal

abbrev pub invariant-loop-scan : goal.invariant-loop-scan
invariant-loop-scan l = IsScan (Precedes l.is_turned) (number_at l.needle.graphemes) (length l.needle.graphemes) l.scan

-- each comparison brings one of the three places on
abbrev pub decreases-loop-scan : goal.decreases-loop-scan
decreases-loop-scan l = 2 * length l.needle.graphemes + 1 - (l.scan.place + l.scan.candidate + l.scan.offset)
