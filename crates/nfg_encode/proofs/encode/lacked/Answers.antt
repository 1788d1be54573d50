use Rattle.nfg_encode.proofs.TextLemmas.{only_latin1}
use Rattle.nfg_encode.proofs.encode.lacked.Goals as goal

pub returns-in_default : goal.returns-in_default
returns-in_default c = only_latin1 c.args.e c.args.codes.now c.in_default.not-Latin1
