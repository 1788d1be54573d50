use Rattle.nfg_text.proofs.Scalars.{scalar_at}
use Rattle.nfg_text.proofs.normal.safe_len.Goals as goal

pub starts_safely-requires : goal.starts_safely-requires
starts_safely-requires c = scalar_at c.args.t.now c.loop-i.i 0 c.requires c.loop-i-test.true
