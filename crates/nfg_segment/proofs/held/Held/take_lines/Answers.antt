use Rattle.std.proofs.Common.{◌∙◌, ◌∷◌, ◌++◌, ◌-◌, [], length, take, slice_index_or, ap, refl, arith}
use Rattle.nfg_text.specs.Plain.{singles}
use Rattle.nfg_segment.proofs.PlainLines.{given-lines}
use Rattle.nfg_segment.proofs.PlainSteps.{follows-lines, follows-whole_lines}
use Rattle.nfg_segment.proofs.TextLemmas.{scalar-at, IsText-take}
use Rattle.nfg_segment.proofs.held.Held.take_lines.Goals as goal

pub push_run-requires-2 : goal.push_run-requires-2
push_run-requires-2 g c = IsText-take (length c.args.lines.now - 1) c.args.lines.now c.requires.text

pub push-requires : goal.push-requires
push-requires g c = scalar-at c.args.lines.now (length c.args.lines.now - 1) 0 c.requires.text (omega (arith, c.requires.some))

pub returns-then-lines-last-eq10-clause-follows : goal.returns-then-lines-last-eq10-clause-follows
returns-then-lines-last-eq10-clause-follows g c fed given apart =
    let h = c.args.self.now.now in
    let new = c.give_tail.new.self.now in
    let lines = c.args.lines.now in
    let end = length lines - 1 in
    let before = c.in_ok-give_tail.ensures in (
      singles (h.tail ++ lines),
      follows-whole_lines h new.cluster fed given apart before.cluster new.tail lines end _ 0 c.requires.plain (omega (arith, c.requires.some)) refl c.if-lines-last-eq10.true before.tail,
      given-lines _ _ _ h.tail lines before.given c.in_ok-push_run.ensures.pushed,
    )

pub returns-clause-follows : goal.returns-clause-follows
returns-clause-follows g c fed given apart =
    let h = c.args.self.now.now in
    let lines = c.args.lines.now in
    let end = length lines - 1 in
    let last = slice_index_or lines end 0 in
    let before = c.in_ok-give_tail.ensures in
    let none = ap (λ v. v.now.tail) c.self.view_is ∙ before.tail in (
      singles (h.tail ++ take end lines),
      follows-lines h c.self.inside.cluster.now fed given apart (ap (λ v. v.now.cluster) c.self.view_is ∙ before.cluster) c.push.new.self.current lines end last 0 c.requires.plain (omega (arith, c.requires.some))
          refl c.if-lines-last-eq10.false (c.in_ok-push.ensures.current ∙ ap (λ l. l ++ last ∷ []) none),
      given-lines _ _ _ h.tail (take end lines) before.given c.in_ok-push_run-2.ensures.pushed,
    )
