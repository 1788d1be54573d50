use Rattle.std.proofs.Common.{reverse, ap, arith}
use Rattle.nfg_segment.proofs.Keeping.{joins-short, joins-long, Keeps-same}
use Rattle.nfg_segment.proofs.open_cluster.OpenCluster.join.Goals as goal

pub returns-then-len-ge-LONGEST-clause-joined : goal.returns-then-len-ge-LONGEST-clause-joined
returns-then-len-ge-LONGEST-clause-joined c cluster keeps =
    let s = c.self.inside in
    let k = Keeps-same _ _ cluster (ap (λ v. v.now) c.self.view_is) keeps in
    joins-long s.head.current s.is_long s.memory c.then-self-inside.result cluster c.args.c k (omega (arith, c.len.ensures, c.if-len-ge-LONGEST.true))
    (c.then-self-inside.ensures (reverse cluster) c.args.c k.memory c.requires.kind)

pub returns-clause-joined : goal.returns-clause-joined
returns-clause-joined c cluster keeps =
    let s = c.self.inside in
    let k = Keeps-same _ _ cluster (ap (λ v. v.now) c.self.view_is) keeps in
    joins-short s.head.current c.push.new.self.current s.is_long s.memory c.then-self-inside-2.result cluster c.args.c k (omega (arith, c.len.ensures, c.if-len-ge-LONGEST.false)) c.in_ok-push.ensures.current
    (c.then-self-inside-2.ensures (reverse cluster) c.args.c k.memory c.requires.kind)
