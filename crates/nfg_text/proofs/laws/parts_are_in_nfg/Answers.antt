use Rattle.nfg_text.proofs.Proved.{graphemes_are_in_nfg, clusters_of_parts, parts_are_in_nfg}
use Rattle.nfg_text.proofs.laws.parts_are_in_nfg.Goals as goal

pub returns : goal.returns
returns c = record { of_text = graphemes_are_in_nfg; clusters = clusters_of_parts; graphemes = parts_are_in_nfg }
