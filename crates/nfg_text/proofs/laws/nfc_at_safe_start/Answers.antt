use Rattle.nfg_text.proofs.Proved.{nfc_at_safe_start, safe_starts_stay}
use Rattle.nfg_text.proofs.laws.nfc_at_safe_start.Goals as goal

pub returns : goal.returns
returns c = record { parts = nfc_at_safe_start; alone = safe_starts_stay }
