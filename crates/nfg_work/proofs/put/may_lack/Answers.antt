use Rattle.nfg_work.proofs.Encoded.{only_latin1}
use Rattle.nfg_work.proofs.put.may_lack.Goals as goal

pub returns-in_default : goal.returns-in_default
returns-in_default c = λ clusters never. only_latin1 c.args.e clusters c.in_default.not-Latin1
