use Rattle.nfg_words.proofs.ProbeTableLemmas.{filled_once}
use Rattle.nfg_words.proofs.laws.places_are_filled_once.Goals as goal

pub returns : goal.returns
returns c = filled_once
