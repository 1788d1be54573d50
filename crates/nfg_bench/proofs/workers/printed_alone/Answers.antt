use Rattle.std.proofs.Common.{arith}
use Rattle.nfg_syn.specs.KnownLaws.{row_size_at}
use Rattle.nfg_bench.proofs.workers.printed_alone.Goals as goal

pub run_alone-requires-clause-row_size : goal.run_alone-requires-clause-row_size
run_alone-requires-clause-row_size c = row_size_at 18 (omega arith) (omega arith)
