use Rattle.nfg_text.proofs.Scalars.{scalar_at}
use Rattle.nfg_text.proofs.normal.to_chars.Goals as goal

pub to_char-requires : goal.to_char-requires
to_char-requires c = scalar_at c.args.t.now c.loop-c.c-index 0 c.requires c.loop-c-test.true
