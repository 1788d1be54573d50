use Rattle.std.proofs.Common.{◌∙◌, arith}
use Rattle.std.proofs.lemmas.List.{length-take-le}
use Rattle.nfg_segment.proofs.Reaching.{give-single, give-short, give-long}
use Rattle.nfg_segment.proofs.TextLemmas.{IsText-take}
use Rattle.nfg_segment.proofs.open_cluster.give_cluster.Goals as goal

pub slice_bounds-push-end : goal.slice_bounds-push-end
slice_bounds-push-end g c = let e = length-take-le 1024 c.args.cluster.now (omega (arith, c.if-cluster-gt-LONGEST.true)) in omega (arith, e)

pub push-requires-clause-text : goal.push-requires-clause-text
push-requires-clause-text g c = IsText-take 1024 c.args.cluster.now c.requires.text

pub push-requires-clause-short : goal.push-requires-clause-short
push-requires-clause-short g c = let e = length-take-le 1024 c.args.cluster.now (omega (arith, c.if-cluster-gt-LONGEST.true)) in omega (arith, e)

pub returns-then-cluster-eq1-clause-given : goal.returns-then-cluster-eq1-clause-given
returns-then-cluster-eq1-clause-given g c = c.in_ok-push_run.ensures.pushed ∙ give-single (g.S.ClusterSink.given c.args.out.now) c.args.cluster.now c.if-cluster-eq1.true

pub returns-then-cluster-gt-LONGEST-clause-given : goal.returns-then-cluster-gt-LONGEST-clause-given
returns-then-cluster-gt-LONGEST-clause-given g c = c.in_ok-push.ensures.pushed ∙ give-long (g.S.ClusterSink.given c.args.out.now) c.args.cluster.now c.if-cluster-gt-LONGEST.true

pub returns-clause-given : goal.returns-clause-given
returns-clause-given g c = c.in_ok-push-2.ensures.pushed ∙ give-short (g.S.ClusterSink.given c.args.out.now) c.args.cluster.now c.if-cluster-gt-LONGEST.false
