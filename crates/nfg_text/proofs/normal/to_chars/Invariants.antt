use Rattle.std.proofs.Common.{◌≡◌, take}
use Rattle.nfg_text.proofs.normal.to_chars.Given as goal

abbrev pub invariant-loop-c : goal.invariant-loop-c
invariant-loop-c l = l.chars.items ≡ take l.c-index l.t
