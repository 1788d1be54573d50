use Rattle.std.proofs.Common.{◌≡◌}
use Rattle.nfg_bench.proofs.plain.widen.Given as goal
use lib.Seq.{paste}

abbrev pub invariant-loop-at : goal.invariant-loop-at
invariant-loop-at l = l.codes ≡ paste l.initial.codes 0 l.bytes l.at
