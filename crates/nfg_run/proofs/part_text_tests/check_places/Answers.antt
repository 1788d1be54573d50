use Rattle.std.proofs.Common.{arith}
use Rattle.nfg_syn.specs.KnownLaws.{row_size_at}
use Rattle.nfg_run.proofs.part_text_tests.check_places.Goals as goal

pub new-requires : goal.new-requires
new-requires g c = row_size_at 12 (omega arith) (omega arith)
