use Rattle.std.proofs.Common.{◌≡◌, ◌++◌, take}
use Rattle.nfg_segment.proofs.composer.extend.Given as goal

abbrev pub invariant-loop-c : goal.invariant-loop-c
invariant-loop-c l = l.chars.items ≡ l.initial.chars.items ++ take l.c-index l.text
