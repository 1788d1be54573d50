use Rattle.nfg_work.proofs.InNfg.{part_is_in_nfg}
use Rattle.nfg_work.proofs.laws.part_is_in_nfg.Goals as goal

pub returns : goal.returns
returns c = part_is_in_nfg
