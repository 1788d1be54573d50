use Rattle.nfg_encode.proofs.LawLemmas.{only_encoding}
use Rattle.nfg_encode.proofs.laws.one_encoding.Goals as goal

pub returns : goal.returns
returns c e bytes t other small decoded = only_encoding e bytes t other small decoded
