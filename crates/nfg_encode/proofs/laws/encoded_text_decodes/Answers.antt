use Rattle.nfg_encode.proofs.LawLemmas.{encoded_decodes}
use Rattle.nfg_encode.proofs.laws.encoded_text_decodes.Goals as goal

pub returns : goal.returns
returns c e t text = encoded_decodes e t text
