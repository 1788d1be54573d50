use Rattle.std.proofs.Common.{◌∙◌, ap, arith}
use Rattle.nfg_segment.specs.Held.{is_some}
use Rattle.nfg_segment.proofs.Reaching.{reaches-some, reaches-held}
use Rattle.nfg_segment.proofs.open_reach.is_some.Goals as goal

pub returns-then-reach-at-clause-some : goal.returns-then-reach-at-clause-some
returns-then-reach-at-clause-some c cluster reaches =
    reaches-some c.args.open_cluster.now.now c.args.text.now c.args.at c.args.reach cluster reaches c.if-reach-at.true c.requires.within

pub returns-clause-some : goal.returns-clause-some
returns-clause-some c cluster reaches =
    c.is_some.ensures.cluster reaches.before reaches.keeps
    ∙ ap is_some (reaches-held c.args.open_cluster.now.now c.args.text.now c.args.at c.args.reach cluster reaches (omega (arith, c.requires.start, c.if-reach-at.false)))
