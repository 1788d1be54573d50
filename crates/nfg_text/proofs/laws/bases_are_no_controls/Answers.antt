use Rattle.nfg_text.proofs.Proved.{consonants_are_no_controls, pictographs_are_no_controls}
use Rattle.nfg_text.proofs.laws.bases_are_no_controls.Goals as goal

pub returns : goal.returns
returns c = record { pictographs = pictographs_are_no_controls; consonants = consonants_are_no_controls }
