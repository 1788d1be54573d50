use Rattle.std.proofs.Common.{ℕ, List, take, ◌++◌, reverse}
use Rattle.nfg_text.specs.Breaks.{Remembers}
use Rattle.nfg_seam.proofs.right_end.remembered.Given as goal

abbrev pub invariant-loop-i : goal.invariant-loop-i
invariant-loop-i l = (text : List ℕ) → Remembers l.fn.memory (reverse text) → Remembers l.memory (reverse (text ++ take l.i l.more))
