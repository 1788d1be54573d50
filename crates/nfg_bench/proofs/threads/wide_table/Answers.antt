use Rattle.std.proofs.Common.{arith}
use Rattle.nfg_syn.specs.KnownLaws.{row_size_at}
use Rattle.nfg_bench.proofs.threads.wide_table.Goals as goal

pub new-requires : goal.new-requires
new-requires c = row_size_at 20 (omega arith) (omega arith)
