use Rattle.nfg_text.proofs.Proved.{clusters_spell_text, graphemes_decide_equivalence, graphemes_spell_nfc}
use Rattle.nfg_text.proofs.laws.graphemes_decide_equivalence.Goals as goal

pub returns : goal.returns
returns c = record { decide = graphemes_decide_equivalence; spell = graphemes_spell_nfc; clusters = clusters_spell_text }
