use Rattle.nfg_text.proofs.Proved.{nfc_of_text, parts_of_text}
use Rattle.nfg_text.proofs.laws.nfc_of_text.Goals as goal

pub returns : goal.returns
returns c = record { form = nfc_of_text; parts = parts_of_text }
