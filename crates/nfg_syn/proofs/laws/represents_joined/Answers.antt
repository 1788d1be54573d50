use Rattle.nfg_syn.specs.RepresentsLaws.{Represents-append}
use Rattle.nfg_syn.proofs.laws.represents_joined.Goals as goal

pub returns : goal.returns
returns c = Represents-append
