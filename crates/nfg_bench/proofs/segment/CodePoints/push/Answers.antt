use Rattle.nfg_bench.proofs.TextLemmas.{text_more}
use Rattle.nfg_bench.proofs.segment.CodePoints.push.Goals as goal

pub invariant_of-self-2 : goal.invariant_of-self-2
invariant_of-self-2 c = text_more c.self.inside.codes.items c.push.new.self.items c.args.c c.in_ok-push.ensures.items c.self.invariant c.ranges.c.0
