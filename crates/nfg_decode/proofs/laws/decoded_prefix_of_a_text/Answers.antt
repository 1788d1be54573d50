use Rattle.nfg_decode.proofs.PrefixLemmas.{prefix_of_text}
use Rattle.nfg_decode.proofs.laws.decoded_prefix_of_a_text.Goals as goal

pub returns : goal.returns
returns c e bytes t decoded = prefix_of_text e bytes t decoded
