use Rattle.std.proofs.Common.{◌++◌, ◌∷◌, ◌∙◌, [], ap, sym, subst}
use Rattle.nfg_segment.specs.Held.{Keeps}
use Rattle.nfg_segment.proofs.Keeping.{none-is_nil}
use Rattle.nfg_segment.proofs.PlainSteps.{follows-parted}
use Rattle.nfg_segment.proofs.held.Held.replace_single.Goals as goal

pub returns-in_ok-push-in-Some-clause-follows : goal.returns-in_ok-push-in-Some-clause-follows
returns-in_ok-push-in-Some-clause-follows g c fed given f done =
    let cluster = f.tracks.cluster in
    let first = c.in-Some.first in
    let one = c.in-Some.ensures in
    let some = c.is_some.ensures.cluster cluster (subst (λ h. Keeps h.now.cluster cluster) (sym c.self.view_is) f.tracks.keeps) in
    let none = none-is_nil cluster (sym some ∙ c.if-is_some.false) in
    let parted = sym c.are_parted.ensures ∙ c.if-not-are_parted.false in
    let tail = c.in_ok-push-in-Some.ensures.current ∙ ap (λ l. l ++ c.args.next ∷ []) c.clear.ensures.current in (
      (first ∷ []) ∷ [],
      follows-parted c.args.self.now.now c.self.inside.cluster.now c.push.new.self.current fed given first c.args.next f none one.tail one.safe c.requires.safe c.if-next-eq10.false parted tail (ap (λ h. h.now.cluster) c.self.view_is),
      c.in_ok-push_run-in-Some.ensures.pushed,
    )
