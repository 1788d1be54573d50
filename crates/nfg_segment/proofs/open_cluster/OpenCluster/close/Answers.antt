use Rattle.std.proofs.Common.{◌∙◌, sym, ap, subst}
use Rattle.nfg_segment.specs.Given.{with_clusters}
use Rattle.nfg_segment.specs.Held.{Keeps}
use Rattle.nfg_segment.proofs.Keeping.{as_list-some, as_list-none, none-is_nil}
use Rattle.nfg_segment.proofs.open_cluster.OpenCluster.close.Goals as goal

pub returns-in_ok-give-clause-given : goal.returns-in_ok-give-clause-given
returns-in_ok-give-clause-given g c cluster keeps =
    let gave = c.in_ok-give.ensures.given cluster keeps in
    let some = sym (c.is_some.ensures.cluster cluster keeps) ∙ c.if-is_some.true in
    (gave.0, gave.1 ∙ ap (with_clusters (g.S.ClusterSink.given c.args.out.now)) (sym (as_list-some cluster some)))

pub returns-else-is_some-clause-given : goal.returns-else-is_some-clause-given
returns-else-is_some-clause-given g c cluster keeps =
    let none = sym (c.is_some.ensures.cluster cluster keeps) ∙ c.if-is_some.false in (
      subst (Keeps c.args.self.now.now) (none-is_nil cluster none) keeps,
      ap (with_clusters (g.S.ClusterSink.given c.args.out.now)) (sym (as_list-none cluster none)),
    )
