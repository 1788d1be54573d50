use Rattle.nfg_text.proofs.Proved.{clusters_at_line_feed, nfc_at_line_feed}
use Rattle.nfg_text.proofs.laws.line_feeds_stand_alone.Goals as goal

pub returns : goal.returns
returns c = record { clusters = clusters_at_line_feed; form = nfc_at_line_feed }
