use Rattle.std.proofs.Common.{ℕ, ◌<◌, ◌+◌, w8, pos, FitsSigned, get_or}
use Rattle.nfg_lanes.proofs.block.read8.Given as goal

abbrev pub invariant-loop-k : goal.invariant-loop-k
invariant-loop-k l = (j : ℕ) → j < l.k → FitsSigned w8 (get_or l.a (l.at + j) (pos 0))
