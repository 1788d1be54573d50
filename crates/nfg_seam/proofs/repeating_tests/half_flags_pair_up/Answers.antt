use Rattle.std.proofs.Common.{arith}
use Rattle.nfg_syn.specs.KnownLaws.{row_size_at}
use Rattle.nfg_seam.proofs.repeating_tests.half_flags_pair_up.Goals as goal

pub new-requires : goal.new-requires
new-requires g c = row_size_at 4 (omega arith) (omega arith)
