use Rattle.std.proofs.Common.{◌≡◌, ◌++◌}
use Rattle.std.specs.List.{repeat}
use Rattle.nfg_strand.proofs.flat.push_widened_times.Given as goal

-- the cells so many times
abbrev pub invariant-times : goal.invariant-times
invariant-times l = l.into.items ≡ l.initial.into.items ++ repeat l._k l.cells
