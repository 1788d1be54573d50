use Rattle.std.proofs.Common.{sym, ◌∙◌}
use Rattle.nfg_segment.proofs.SafeRuns.{none-more}
use Rattle.nfg_segment.proofs.TextLemmas.{scalar-at}
use Rattle.nfg_segment.proofs.settled_run.unsafe_len.Goals as goal

pub starts_safely-requires : goal.starts_safely-requires
starts_safely-requires c = scalar-at c.args.text.now c.loop-i.i 0 c.requires c.loop-i-test.true

pub loop-i-preserved : goal.loop-i-preserved
loop-i-preserved c = none-more c.args.text.now c.loop-i.i c.loop-i-test.true c.loop-i.invariant (sym c.starts_safely.ensures ∙ c.if-starts_safely.false)
