use Rattle.std.proofs.Common.{◌≡◌, true, take}
use Rattle.nfg_segment.specs.Held.{none_safe}
use Rattle.nfg_segment.proofs.settled_run.unsafe_len.Given as goal

abbrev pub invariant-loop-i : goal.invariant-loop-i
invariant-loop-i l = none_safe (take l.i l.text) ≡ true
