use Rattle.std.proofs.Common.{take, reverse}
use Rattle.nfg_text.specs.Breaks.{Remembers}
use Rattle.nfg_segment.proofs.marked_run.memory_of.Given as goal

abbrev pub invariant-loop-c : goal.invariant-loop-c
invariant-loop-c l = Remembers l.memory (reverse (take l.c-index l.text))
