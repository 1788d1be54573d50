use Rattle.std.proofs.Common.{take}
use Rattle.nfg_text.specs.Text.{IsText}
use Rattle.nfg_text.proofs.normal.is_text.Given as goal

abbrev pub invariant-loop-c : goal.invariant-loop-c
invariant-loop-c l = IsText (take l.c-index l.t)
