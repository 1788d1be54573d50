use Rattle.std.proofs.Common.{◌≡◌, ◌++◌}
use Rattle.std.specs.List.{repeat}
use Rattle.nfg_seam.proofs.copies.append_each.Given as goal

abbrev pub invariant-copies : goal.invariant-copies
invariant-copies l = l.into.items ≡ l.fn.into.items ++ repeat l._copy l.run
