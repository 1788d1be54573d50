use Rattle.nfg_text.proofs.Proved.{nfc_at_break}
use Rattle.nfg_text.proofs.laws.nfc_at_break.Goals as goal

pub returns : goal.returns
returns c = nfc_at_break
