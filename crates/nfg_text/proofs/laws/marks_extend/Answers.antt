use Rattle.nfg_text.proofs.Proved.{marks_extend}
use Rattle.nfg_text.proofs.laws.marks_extend.Goals as goal

pub returns : goal.returns
returns c = marks_extend
