use Rattle.std.proofs.Common.{lit≤, refl}
use Rattle.nfg_syn.specs.Known.{IsRowSize}
use Rattle.nfg_run.proofs.evaluated.enough_places.Goals as goal

pub lesser-requires-clause-size : goal.lesser-requires-clause-size
lesser-requires-clause-size c = record { exponent = 12; power = refl; at_least_16 = lit≤ tt; at_most_2_20 = lit≤ tt }

pub lesser-requires-then-wanted-2-clause-size : goal.lesser-requires-then-wanted-2-clause-size
lesser-requires-then-wanted-2-clause-size c = record { exponent = 16; power = refl; at_least_16 = lit≤ tt; at_most_2_20 = lit≤ tt }
