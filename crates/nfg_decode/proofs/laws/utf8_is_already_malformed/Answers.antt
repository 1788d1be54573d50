use Rattle.nfg_decode.proofs.LawLemmas.{utf8_exactly}
use Rattle.nfg_decode.proofs.laws.utf8_is_already_malformed.Goals as goal

pub returns : goal.returns
returns c bytes at = utf8_exactly bytes at
