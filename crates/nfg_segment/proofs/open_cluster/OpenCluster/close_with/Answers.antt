use Rattle.std.proofs.Common.{◌++◌, ◌∙◌, sym, ap, subst}
use Rattle.nfg_segment.specs.Given.{with_cluster, with_clusters}
use Rattle.nfg_segment.specs.Held.{Keeps}
use Rattle.nfg_segment.proofs.Keeping.{as_list-some, none-is_nil}
use Rattle.nfg_segment.proofs.Reaching.{some-append}
use Rattle.nfg_segment.proofs.open_cluster.OpenCluster.close_with.Goals as goal

pub returns-then-not-is_some-clause-given : goal.returns-then-not-is_some-clause-given
returns-then-not-is_some-clause-given g c cluster keeps remembers =
    let none = none-is_nil cluster (sym (c.is_some.ensures.cluster cluster keeps) ∙ c.if-not-is_some.true) in
    (subst (Keeps c.args.self.now.now) none keeps, c.in_ok-give_cluster.ensures.given ∙ ap (λ l. with_cluster (g.S.ClusterSink.given c.args.out.now) (l ++ c.args.text.now)) (sym none))

pub returns-clause-given : goal.returns-clause-given
returns-clause-given g c cluster keeps remembers =
    let text = c.args.text.now in
    let some = sym (c.is_some.ensures.cluster cluster keeps) ∙ c.if-not-is_some.false in
    let joined = c.in_ok-join_all.ensures.joined cluster keeps remembers in
    let closed = c.in_ok-close.ensures.given (cluster ++ text) joined in
    (closed.0, closed.1 ∙ ap (with_clusters (g.S.ClusterSink.given c.args.out.now)) (as_list-some (cluster ++ text) (some-append cluster text some)))
