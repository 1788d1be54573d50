use Rattle.nfg_text.proofs.Proved.{clusters_of_utf8}
use Rattle.nfg_text.proofs.laws.clusters_of_utf8.Goals as goal

pub returns : goal.returns
returns c = clusters_of_utf8
