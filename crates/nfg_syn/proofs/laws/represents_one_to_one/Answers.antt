use Rattle.nfg_syn.specs.RepresentsLaws.{Represents-same}
use Rattle.nfg_syn.proofs.laws.represents_one_to_one.Goals as goal

pub returns : goal.returns
returns c = Represents-same
