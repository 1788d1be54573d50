use Rattle.std.proofs.Common.{◌∙◌, ap, arith}
use Rattle.std.specs.List.{slice_range}
use Rattle.nfg_text.specs.Plain.{singles}
use Rattle.nfg_segment.specs.Given.{with_cluster, with_clusters}
use Rattle.nfg_segment.proofs.Marked.{row-more, row-none}
use Rattle.nfg_segment.proofs.Reaching.{slice_text}
use Rattle.nfg_segment.proofs.marked_run.go_past.Goals as goal

pub push_run-requires : goal.push_run-requires
push_run-requires g c = slice_text c.args.text.now c.args.begun.row c.args.begun.start c.requires.text

pub give_cluster-requires-clause-text : goal.give_cluster-requires-clause-text
give_cluster-requires-clause-text g c = slice_text c.args.text.now c.args.begun.start c.args.at c.requires.text

pub returns-then-at-begun-eq1-clause-given : goal.returns-then-at-begun-eq1-clause-given
returns-then-at-begun-eq1-clause-given g c _ =
    row-more c.args.text.now (g.S.ClusterSink.given c.args.out.now) c.args.begun.row c.args.begun.start c.args.at c.requires.row
    (omega (arith, c.if-at-begun-eq1.true, c.requires.some)) c.requires.within

pub returns-clause-given : goal.returns-clause-given
returns-clause-given g c _ =
    let given = g.S.ClusterSink.given in
    let text = c.args.text.now in
    let row = singles (slice_range text c.args.begun.row c.args.begun.start) in
    let last = slice_range text c.args.begun.start c.args.at in
    row-none text (given c.give_cluster.new.out) (with_clusters (given c.args.out.now) row) c.args.at last
    (c.in_ok-give_cluster.ensures.given ∙ ap (λ o. with_cluster o last) c.in_ok-push_run.ensures.pushed)
