use Rattle.std.proofs.Common.{◌≡◌, ◌∙◌, sym, subst}
use Rattle.std.proofs.lemmas.Result.{IfOk-weaker}
use Rattle.std.specs.List.{repeat}
use Rattle.nfg_text.specs.Graphemes.{graphemes_of}
use Rattle.nfg_text.specs.Operations.{repetition}
use Rattle.nfg_text.specs.Text.{IsText, text_of}
use Rattle.nfg_syn.specs.Represents.{Represents}
use Rattle.nfg_seam.specs.Numbered.{AreNumbered}
use Rattle.nfg_seam.proofs.RepeatMade.{Numbered-from}
use Rattle.nfg_seam.proofs.RepeatSpelled.{Represents-text}
use Rattle.nfg_seam.proofs.repeating.number_again.Goals as goal

pub number_repeated-requires-clause-text : goal.number_repeated-requires-clause-text
number_repeated-requires-clause-text g c κs within =
    let seen = g.T.Synthetics.seen c.args.pass.now in
    let list = c.requires.graphemes.0 in
    let are = c.requires.graphemes.1 in
    subst IsText
    (sym (c.as_slice.ensures ∙ c.in-Ok-spelled.ensures.spelled list (subst (λ ns. Represents seen.known ns list) (sym (c.deref.ensures.value ∙ c.in-Ok.ensures)) are)))
    (Represents-text (g.T.Synthetics.size c.args.table.now) seen.known seen.places (g.met.T.Synthetics.knows c.args.table.now c.args.pass.now c.requires.table) c.args.a.now.graphemes list are)

pub returns-in-Ok-spelled-clause-numbers : goal.returns-in-Ok-spelled-clause-numbers
returns-in-Ok-spelled-clause-numbers g c list are =
    let old = (g.T.Synthetics.seen c.args.pass.now).known in
    let mid = (g.T.Synthetics.seen c.spelled.new.pass).known in
    let new = (g.T.Synthetics.seen c.number_repeated.new.pass).known in
    let text : c.as_slice.result.now ≡ text_of list =
    c.as_slice.ensures ∙ c.in-Ok-spelled.ensures.spelled list (subst (λ ns. Represents old ns list) (sym (c.deref.ensures.value ∙ c.in-Ok.ensures)) are) in
    IfOk-weaker c.number_repeated.result
    (λ numbers. AreNumbered (graphemes_of (repeat c.args.n c.as_slice.result.now)) mid new numbers.items)
    (λ numbers. AreNumbered (repetition list c.args.n) old new numbers.items)
    (λ numbers all. Numbered-from (repetition list c.args.n) old mid new numbers.items c.in-Ok-spelled.ensures.known
    (subst (λ t. AreNumbered (graphemes_of (repeat c.args.n t)) mid new numbers.items) text all))
    c.number_repeated.ensures.numbers
