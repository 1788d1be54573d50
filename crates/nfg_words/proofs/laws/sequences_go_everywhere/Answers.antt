use Rattle.nfg_words.proofs.ProbeTableLemmas.{goes_everywhere, goes_once}
use Rattle.nfg_words.proofs.laws.sequences_go_everywhere.Goals as goal

pub returns-clause-everywhere : goal.returns-clause-everywhere
returns-clause-everywhere c = goes_everywhere

pub returns-clause-once : goal.returns-clause-once
returns-clause-once c = goes_once
