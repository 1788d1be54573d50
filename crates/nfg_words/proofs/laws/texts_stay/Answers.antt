use Rattle.nfg_words.proofs.ProbeTableLemmas.{texts_stay}
use Rattle.nfg_words.proofs.laws.texts_stay.Goals as goal

pub returns : goal.returns
returns c = texts_stay
