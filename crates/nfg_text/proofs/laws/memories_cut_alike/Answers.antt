use Rattle.nfg_text.proofs.Proved.{memories_cut_alike}
use Rattle.nfg_text.proofs.laws.memories_cut_alike.Goals as goal

pub returns : goal.returns
returns c = memories_cut_alike
