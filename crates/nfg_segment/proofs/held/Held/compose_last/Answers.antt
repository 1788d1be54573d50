use Rattle.std.proofs.Common.{◌∷◌, ◌++◌, ◌∙◌, [], slice_index_or, refl, ap, sym}
use Rattle.nfg_segment.proofs.PlainSteps.{one_item}
use Rattle.nfg_segment.proofs.SafeRuns.{follows-composed}
use Rattle.nfg_segment.proofs.held.Held.compose_last.Goals as goal

pub returns-in_ok-push-in-Some-clause-follows : goal.returns-in_ok-push-in-Some-clause-follows
returns-in_ok-push-in-Some-clause-follows c fed given unsafe f done =
    let tail = c.as_slice-tail.result.now in
    let first = slice_index_or tail 0 0 in
    follows-composed c.args.self.now.now c.self.inside.cluster.now c.push.new.self.current fed given first c.args.c c.in-Some.whole unsafe f
    (sym (ap (λ h. h.now.tail) c.self.view_is) ∙ sym c.as_slice-tail.ensures.codes ∙ one_item tail first 0 c.if-tail-ne1.false refl)
    (ap (λ h. h.now.cluster) c.self.view_is)
    (c.in_ok-push-in-Some.ensures.current ∙ ap (λ l. l ++ c.in-Some.whole ∷ []) c.clear.ensures.current)
    c.in-Some.ensures.in_place
