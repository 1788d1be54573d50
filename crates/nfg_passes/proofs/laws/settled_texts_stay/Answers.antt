use Rattle.nfg_passes.proofs.Proved.{settled_texts_stay, settled_texts_stay_behind}
use Rattle.nfg_passes.proofs.laws.settled_texts_stay.Goals as goal

pub returns : goal.returns
returns c = record { alone = settled_texts_stay; behind = settled_texts_stay_behind }
