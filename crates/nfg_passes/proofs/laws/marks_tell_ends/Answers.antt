use Rattle.nfg_passes.proofs.Proved.{marks_tell_ends}
use Rattle.nfg_passes.proofs.laws.marks_tell_ends.Goals as goal

pub returns : goal.returns
returns c = marks_tell_ends
