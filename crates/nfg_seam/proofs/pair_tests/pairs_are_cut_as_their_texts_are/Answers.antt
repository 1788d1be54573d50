use Rattle.std.proofs.Common.{arith}
use Rattle.nfg_syn.specs.KnownLaws.{row_size_at}
use Rattle.nfg_seam.proofs.pair_tests.pairs_are_cut_as_their_texts_are.Goals as goal

pub new-requires : goal.new-requires
new-requires g c = row_size_at 12 (omega arith) (omega arith)
