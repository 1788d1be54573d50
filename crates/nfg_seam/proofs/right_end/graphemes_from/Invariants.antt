use Rattle.std.proofs.Common.{◌≡◌, drop}
use Rattle.nfg_seam.proofs.right_end.graphemes_from.Given as goal

abbrev pub invariant-skipping : goal.invariant-skipping
invariant-skipping l = record { numbers : l.numbers ≡ drop l._place l.b.graphemes }
