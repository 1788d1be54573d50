use Rattle.nfg_text.proofs.KeptFront.{append-nfc_empty}
use Rattle.nfg_text.proofs.normal.extend_composed.Goals as goal

pub returns-then-is_empty-clause-codes : goal.returns-then-is_empty-clause-codes
returns-then-is_empty-clause-codes c = append-nfc_empty c.args.codes.now.items c.args.t.now c.is_empty.result c.is_empty.ensures c.if-is_empty.true
