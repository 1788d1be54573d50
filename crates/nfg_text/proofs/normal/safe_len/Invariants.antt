use Rattle.std.proofs.Common.{◌≡◌, true, take}
use Rattle.std.specs.List.{list_all}
use Rattle.nfg_text.specs.Graphemes.{starts_safely}
use Rattle.nfg_text.proofs.normal.safe_len.Given as goal

abbrev pub invariant-loop-i : goal.invariant-loop-i
invariant-loop-i l = list_all starts_safely (take l.i l.t) ≡ true
