use Rattle.std.proofs.Common.{◌≡◌, ◌++◌, take}
use Rattle.std.specs.List.{flat_map}
use Rattle.nfg_work.specs.Printing.{piece_text}
use Rattle.nfg_work.proofs.printing.shape.Given as goal

abbrev pub invariant-printing : goal.invariant-printing
invariant-printing l = l.output ≡ l.initial.output ++ flat_map piece_text (take l.k l.string.pieces)
