use Rattle.std.proofs.Common.{arith}
use Rattle.nfg_syn.specs.KnownLaws.{row_size_at}
use Rattle.nfg_syn.proofs.tests.a_table_of_16_places_numbers_16_texts.Goals as goal

pub new-requires : goal.new-requires
new-requires g c = row_size_at 4 (omega arith) (omega arith)
