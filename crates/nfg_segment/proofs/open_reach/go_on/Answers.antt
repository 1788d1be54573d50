use Rattle.std.proofs.Common.{[], ◌∙◌, reverse, sym, ap, subst, get_or, arith}
use Rattle.nfg_text.specs.Breaks.{Remembers}
use Rattle.nfg_segment.specs.Given.{with_cluster, with_clusters}
use Rattle.nfg_segment.proofs.Keeping.{closed-ends, closed-stays}
use Rattle.nfg_segment.proofs.Reaching.{slice_text, some-codes, reaches-ended, reaches-on}
use Rattle.nfg_segment.proofs.open_reach.go_on.Goals as goal

pub close_with-requires-clause-text : goal.close_with-requires-clause-text
close_with-requires-clause-text g c = slice_text c.args.text.now c.args.reach.start c.args.at c.requires.text

pub close_with-requires-clause-some : goal.close_with-requires-clause-some
close_with-requires-clause-some g c =
    some-codes c.args.text.now c.args.reach.start c.args.at _ c.requires.start (omega (arith, c.requires.within)) (c.ends_before.ensures.some c.if-ends_before.true)

pub returns-then-ends_before-clause-given : goal.returns-then-ends_before-clause-given
returns-then-ends_before-clause-given g c cluster reaches =
    let text = c.args.text.now in
    let at = c.args.at in
    let x = get_or text at 0 in
    let ends = sym (c.ends_before.ensures.ends cluster reaches) ∙ c.if-ends_before.true in
    let closed = c.in_ok-close_with.ensures.given reaches.before reaches.keeps (subst (λ l. Remembers c.args.reach.memory (reverse l)) reaches.whole reaches.memory) in (
      reaches-ended c.close_with.new.self.now text at c.then.result cluster closed.0 c.requires.within ends (c.then.ensures [] x c.new.ensures c.requires.kind),
      closed.1 ∙ ap (with_cluster (g.S.ClusterSink.given c.args.out.now)) (sym reaches.whole) ∙ ap (with_clusters (g.S.ClusterSink.given c.args.out.now)) (sym (closed-ends cluster x ends)),
    )

pub returns-clause-given : goal.returns-clause-given
returns-clause-given g c cluster reaches =
    let text = c.args.text.now in
    let at = c.args.at in
    let x = get_or text at 0 in
    let stays = sym (c.ends_before.ensures.ends cluster reaches) ∙ c.if-ends_before.false in (
      reaches-on c.args.open_cluster.now.now text at c.args.reach c.then-2.result cluster reaches c.requires.start c.requires.within stays (c.then-2.ensures (reverse cluster) x reaches.memory c.requires.kind),
      ap (with_clusters (g.S.ClusterSink.given c.args.out.now)) (sym (closed-stays cluster x stays)),
    )
