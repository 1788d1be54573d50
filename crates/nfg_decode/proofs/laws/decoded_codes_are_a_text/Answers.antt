use Rattle.nfg_decode.proofs.LawLemmas.{prefix_scalars}
use Rattle.nfg_decode.proofs.laws.decoded_codes_are_a_text.Goals as goal

pub returns : goal.returns
returns c e bytes small = prefix_scalars e bytes small
