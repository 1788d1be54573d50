use Rattle.nfg_decode.proofs.StreamLemmas.{malformed_more}
use Rattle.nfg_decode.proofs.laws.already_malformed_stays.Goals as goal

pub returns : goal.returns
returns c e bytes more at small bad = malformed_more e bytes more at small bad
