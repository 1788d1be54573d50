use Rattle.std.proofs.Common.{refl, arith}
use Rattle.nfg_words.proofs.tests_of_forks.a_table_whose_chunks_are_spent_keeps_its_numbers.Goals as goal

pub new-requires : goal.new-requires
new-requires g c = record { exponent = 7; power = refl; at_least_16 = omega arith; at_most_2_20 = omega arith }
