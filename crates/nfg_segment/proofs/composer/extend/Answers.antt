use Rattle.nfg_segment.proofs.TextLemmas.{scalar-at}
use Rattle.nfg_segment.proofs.composer.extend.Goals as goal

pub to_char-requires : goal.to_char-requires
to_char-requires c = scalar-at c.args.text.now c.loop-c.c-index 0 c.requires c.loop-c-test.true
