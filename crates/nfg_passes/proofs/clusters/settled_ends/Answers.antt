use Rattle.std.proofs.Common.{ap, sym, ◌∙◌}
use Rattle.nfg_text.specs.Graphemes.{cluster_ends}
use Rattle.nfg_passes.specs.Marks.{ends_of_marks}
use Rattle.nfg_passes.proofs.Proved.{marks_tell_ends}
use Rattle.nfg_passes.proofs.clusters.settled_ends.Goals as goal

pub returns-clause-ends : goal.returns-clause-ends
returns-clause-ends c =
    let settled = c.if-not-mark_settled.false in
    c.ends_of.ensures.ends ∙ ap ends_of_marks (c.mark_settled.ensures.marks settled) ∙ marks_tell_ends c.args.text.now
    ∙ ap cluster_ends (sym (c.mark_settled.ensures.stays settled))
