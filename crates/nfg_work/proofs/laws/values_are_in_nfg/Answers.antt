use Rattle.nfg_work.proofs.InNfg.{evaluation_goes_on, values_are_in_nfg}
use Rattle.nfg_work.proofs.laws.values_are_in_nfg.Goals as goal

pub returns : goal.returns
returns c = record { values = values_are_in_nfg; evaluation = evaluation_goes_on }
