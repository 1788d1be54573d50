use Rattle.nfg_syn.specs.RepresentsLaws.{Represents-grows}
use Rattle.nfg_syn.proofs.laws.represents_more.Goals as goal

pub returns : goal.returns
returns c = Represents-grows
