use Rattle.std.proofs.Common.{◌∙◌, sym, ap, subst}
use Rattle.nfg_segment.specs.Given.{with_clusters}
use Rattle.nfg_segment.specs.Held.{Keeps}
use Rattle.nfg_segment.proofs.Keeping.{closed-ends, left_open-ends, closed-stays, left_open-stays}
use Rattle.nfg_segment.proofs.open_cluster.OpenCluster.close_before.Goals as goal

pub returns-in_ok-give-clause-given : goal.returns-in_ok-give-clause-given
returns-in_ok-give-clause-given g c cluster keeps =
    let gave = c.in_ok-give.ensures.given cluster keeps in
    let ends = sym (c.ends_before.ensures.cluster cluster keeps) ∙ c.if-ends_before.true in (
      subst (Keeps c.give.new.self.now) (sym (left_open-ends cluster c.args.c ends)) gave.0,
      gave.1 ∙ ap (with_clusters (g.S.ClusterSink.given c.args.out.now)) (sym (closed-ends cluster c.args.c ends)),
    )

pub returns-else-ends_before-clause-given : goal.returns-else-ends_before-clause-given
returns-else-ends_before-clause-given g c cluster keeps =
    let stays = sym (c.ends_before.ensures.cluster cluster keeps) ∙ c.if-ends_before.false in (
      subst (Keeps c.args.self.now.now) (sym (left_open-stays cluster c.args.c stays)) keeps,
      ap (with_clusters (g.S.ClusterSink.given c.args.out.now)) (sym (closed-stays cluster c.args.c stays)),
    )
