use Rattle.std.proofs.Common.{refl, arith}
use Rattle.nfg_bench.proofs.tables.cell_table.Goals as goal

pub new-requires : goal.new-requires
new-requires c = record { exponent = 18; power = refl; at_least_16 = omega arith; at_most_2_20 = omega arith }
