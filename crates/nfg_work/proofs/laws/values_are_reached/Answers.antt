use Rattle.nfg_work.proofs.Reached.{values_are_reached}
use Rattle.nfg_work.proofs.laws.values_are_reached.Goals as goal

pub returns : goal.returns
returns c = values_are_reached
