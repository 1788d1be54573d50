use Rattle.std.proofs.Common.{ℕ, ◌<◌, ◌+◌, w32, pos, FitsSigned, get_or}
use Rattle.nfg_lanes.proofs.block.read32.Given as goal

abbrev pub invariant-loop-k : goal.invariant-loop-k
invariant-loop-k l = (j : ℕ) → j < l.k → FitsSigned w32 (get_or l.a (l.at + j) (pos 0))
