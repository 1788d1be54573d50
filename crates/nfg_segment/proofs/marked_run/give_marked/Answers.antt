use Rattle.std.proofs.Common.{[], ◌++◌, ◌∙◌, ap, sym, append_assoc, append-nil}
use Rattle.nfg_segment.proofs.Marked.{cut-first, mark-tells, cut-more}
use Rattle.nfg_segment.proofs.Reaching.{slice_text}
use Rattle.nfg_segment.proofs.marked_run.give_marked.Goals as goal

pub loop-at-init : goal.loop-at-init
loop-at-init g c =
    let first = g.S.ClusterSink.given c.args.out.now in
    record { cut = cut-first c.args.text.now first c.requires.some; grew = ([], sym (append-nil first.heads)) }

pub loop-at-preserved : goal.loop-at-preserved
loop-at-preserved g c =
    let given = g.S.ClusterSink.given in
    let text = c.args.text.now in
    let at = c.loop-at.at in
    let old = c.loop-at.begun in
    let new = c.in_ok-begun.begun in
    let so_far = c.loop-at.invariant.cut in
    let step = c.in_ok-begun.ensures in
    let before = c.loop-at.invariant.grew in
    let after = c.go_past.ensures.grew in
    record {
      cut =
          cut-more text (given c.args.out.now) (given c.loop-at.out) (given c.go_past.new.out) old.row old.start at new.row new.start _ so_far c.loop-at-test.true
          (mark-tells text c.args.marks.now old.start at c.requires.marks so_far.marked c.loop-at-test.true) step.row step.parted step.given
          (λ stays. let same = step.joined stays in (ap (λ b. b.row) same.0, ap (λ b. b.start) same.0, same.1));
      grew = (before.0 ++ after.0, after.1 ∙ ap (λ l. l ++ after.0) before.1 ∙ append_assoc (given c.args.out.now).heads before.0 after.0);
    }

pub push_run-requires : goal.push_run-requires
push_run-requires g c = slice_text c.args.text.now c.loop-at.begun.row c.loop-at.begun.start c.requires.text
