use Rattle.std.proofs.Common.{arith}
use Rattle.nfg_syn.specs.KnownLaws.{row_size_at}
use Rattle.nfg_syn.proofs.tests.tables_passes_and_errors_go_between_threads.Goals as goal

pub new-requires : goal.new-requires
new-requires c = row_size_at 4 (omega arith) (omega arith)
