use Rattle.nfg_decode.proofs.StreamLemmas.{one_place}
use Rattle.nfg_decode.proofs.laws.already_malformed_at_one_place.Goals as goal

pub returns : goal.returns
returns c e bytes at other bad worse = one_place e bytes at other bad worse
