use Rattle.nfg_passes.proofs.Proved.{ids_tell, marks_rise}
use Rattle.nfg_passes.proofs.laws.ids_tell.Goals as goal

pub returns : goal.returns
returns c = record { tell = ids_tell; rise = marks_rise }
