use Rattle.std.proofs.Common.{refl, arith}
use Rattle.nfg_words.proofs.tests_of_threads.eight_threads_give_each_text_one_number.Goals as goal

pub new-requires : goal.new-requires
new-requires g c = record { exponent = 13; power = refl; at_least_16 = omega arith; at_most_2_20 = omega arith }
