use Rattle.std.proofs.Common.{◌∙◌, ◌∷◌, ◌++◌, [], ap, sym, subst}
use Rattle.nfg_text.specs.Plain.{singles}
use Rattle.nfg_segment.specs.Follows.{Follows}
use Rattle.nfg_segment.specs.Given.{with_cluster}
use Rattle.nfg_segment.proofs.LineEnds.{follows-ended, given-ended}
use Rattle.nfg_segment.proofs.held.Held.take_ended_lines.Goals as goal

pub returns-clause-follows : goal.returns-clause-follows
returns-clause-follows g c fed given apart =
    let h = c.args.self.now.now in
    let new = c.give_tail.new.self.now in
    let lines = c.args.lines.now in
    let return = c.requires.line_end in
    let line_end = return.0 ∷ 0xA ∷ [] in
    let more = singles (h.tail ++ lines) ++ line_end ∷ [] in
    let before = c.in_ok-give_tail.ensures in (
      more,
      subst (λ end. Follows new (fed ++ (lines ++ end)) (given ++ more)) (sym return.2)
          (follows-ended return.0 return.1 h new.cluster new.tail lines fed given apart before.cluster c.requires.plain before.tail),
      given-ended _ _ _ _ h.tail lines line_end before.given c.in_ok-push_run.ensures.pushed
          (c.in_ok-give_cluster.ensures.given ∙ ap (with_cluster _) return.2),
    )
