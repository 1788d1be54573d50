use Rattle.nfg_words.proofs.ProbeTableLemmas.{run_is_settled}
use Rattle.nfg_words.proofs.laws.texts_differ.Goals as goal

pub returns-clause-distinct : goal.returns-clause-distinct
returns-clause-distinct c = λ size events run. (run_is_settled size events run).distinct

pub returns-clause-storable : goal.returns-clause-storable
returns-clause-storable c = λ size events run. (run_is_settled size events run).storable
