use Rattle.std.proofs.Common.{◌≡◌, true, take}
use Rattle.std.specs.List.{list_all}
use Rattle.nfg_segment.specs.PlainLines.{is_of_low_lines}
use Rattle.nfg_segment.proofs.plain.are_low_lines_of.Given as goal

abbrev pub invariant-loop-c : goal.invariant-loop-c
invariant-loop-c l = l.all ≡ true → list_all is_of_low_lines (take l.c-index l.low) ≡ true
