use Rattle.std.proofs.Common.{refl}
use Rattle.nfg_run.proofs.Lines.{IsRowSize-of}
use Rattle.nfg_run.proofs.one_hash_tests.clusters_of_one_hash_get_numbers_of_their_own_in_cells.Goals as goal

pub new-requires : goal.new-requires
new-requires g c = IsRowSize-of 32768 refl
