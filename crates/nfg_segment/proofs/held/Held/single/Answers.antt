use Rattle.std.proofs.Common.{arith}
use Rattle.nfg_segment.proofs.TextLemmas.{scalar-at}
use Rattle.nfg_segment.proofs.held.Held.single.Goals as goal

pub starts_safely-requires : goal.starts_safely-requires
starts_safely-requires c = scalar-at c.as_slice-tail.result.now 0 0 c.as_slice-tail.ensures.text (omega (arith, c.if-tail-ne1.false))
