use Rattle.std.proofs.Common.{◌<◌, length}
use Rattle.nfg_ops.proofs.candidate.rare_place.Given as goal

abbrev pub invariant-loop-k : goal.invariant-loop-k
invariant-loop-k l = l.rare < length l.needle.graphemes
