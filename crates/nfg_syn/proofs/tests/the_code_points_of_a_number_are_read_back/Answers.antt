use Rattle.std.proofs.Common.{arith}
use Rattle.nfg_syn.specs.KnownLaws.{row_size_at}
use Rattle.nfg_syn.proofs.tests.the_code_points_of_a_number_are_read_back.Goals as goal

pub new-requires : goal.new-requires
new-requires g c = row_size_at 4 (omega arith) (omega arith)
