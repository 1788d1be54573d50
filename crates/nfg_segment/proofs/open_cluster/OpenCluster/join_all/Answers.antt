use Rattle.std.proofs.Common.{ap, arith}
use Rattle.nfg_segment.proofs.Keeping.{Keeps-same}
use Rattle.nfg_segment.proofs.Reaching.{joins_all-short, joins_all-long}
use Rattle.nfg_segment.proofs.TextLemmas.{IsText-take}
use Rattle.nfg_segment.proofs.open_cluster.OpenCluster.join_all.Goals as goal

pub extend-requires : goal.extend-requires
extend-requires c = IsText-take _ c.args.text.now c.requires

pub returns-then-text-room-clause-joined : goal.returns-then-text-room-clause-joined
returns-then-text-room-clause-joined c cluster keeps remembers =
    let s = c.self.inside in
    let k = Keeps-same _ _ cluster (ap (λ v. v.now) c.self.view_is) keeps in
    joins_all-long s.head.current c.extend.new.self.current s.is_long s.memory c.args.memory cluster c.args.text.now _ k (omega (arith, c.len-room.ensures, c.self.invariant.0)) c.if-text-room.true c.in_ok-extend.ensures.current remembers

pub returns-clause-joined : goal.returns-clause-joined
returns-clause-joined c cluster keeps remembers =
    let s = c.self.inside in
    let k = Keeps-same _ _ cluster (ap (λ v. v.now) c.self.view_is) keeps in
    joins_all-short s.head.current c.extend-2.new.self.current s.is_long s.memory c.args.memory cluster c.args.text.now k (omega (arith, c.len-room.ensures, c.if-text-room.false, c.self.invariant.0)) c.in_ok-extend-2.ensures.current remembers
