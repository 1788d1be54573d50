use Rattle.nfg_work.proofs.MorePlaces.{more_places_change_nothing}
use Rattle.nfg_work.proofs.laws.more_places_change_nothing.Goals as goal

pub returns : goal.returns
returns c = more_places_change_nothing
