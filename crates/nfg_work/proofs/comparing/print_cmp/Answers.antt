use Rattle.std.proofs.Common.{ap, subst, ◌∙◌, slice_index_or}
use Rattle.nfg_work.specs.Evaluation.{value_of}
use Rattle.nfg_work.specs.Holding.{Prints}
use Rattle.nfg_work.specs.Printing.{order_text, line_of}
use Rattle.nfg_work.proofs.Answered.{printed_does}
use Rattle.nfg_work.proofs.Parts.{named, named_graphemes}
use Rattle.nfg_work.proofs.comparing.print_cmp.Goals as goal

pub compare_given-ordering-requires-clause-left : goal.compare_given-ordering-requires-clause-left
compare_given-ordering-requires-clause-left g c κs within =
    let held = c.requires.held in
    let nothing = c.empty-nothing.result in
    named_graphemes (g.T.Synthetics.seen c.args.pass.now).known held.0 c.args.held.now c.args.a nothing c.string_of_name-left.result.now held.1 c.empty-nothing.ensures.graphemes c.empty-nothing.ensures.pieces
    (c.string_of_name-left.ensures ∙ ap (λ v. slice_index_or v c.args.a nothing) c.deref.ensures.value)

pub compare_given-ordering-requires-clause-right : goal.compare_given-ordering-requires-clause-right
compare_given-ordering-requires-clause-right g c κs within =
    let held = c.requires.held in
    let nothing = c.empty-nothing.result in
    named_graphemes (g.T.Synthetics.seen c.args.pass.now).known held.0 c.args.held.now c.args.b nothing c.string_of_name-right.result.now held.1 c.empty-nothing.ensures.graphemes c.empty-nothing.ensures.pieces
    (c.string_of_name-right.ensures ∙ ap (λ v. slice_index_or v c.args.b nothing) c.deref-2.ensures.value)

pub returns-clause-printed : goal.returns-clause-printed
returns-clause-printed g c = λ reads state h already.
    let nothing = c.empty-nothing.result in
    let left = named (g.T.Synthetics.seen c.args.pass.now).known reads c.args.held.now state c.args.a nothing c.string_of_name-left.result.now h c.empty-nothing.ensures.graphemes c.empty-nothing.ensures.pieces
    (c.string_of_name-left.ensures ∙ ap (λ v. slice_index_or v c.args.a nothing) c.deref.ensures.value) in
    let right = named (g.T.Synthetics.seen c.args.pass.now).known reads c.args.held.now state c.args.b nothing c.string_of_name-right.result.now h c.empty-nothing.ensures.graphemes c.empty-nothing.ensures.pieces
    (c.string_of_name-right.ensures ∙ ap (λ v. slice_index_or v c.args.b nothing) c.deref-2.ensures.value) in
    printed_does (g.T.Synthetics.seen c.args.pass.now).known reads c.args.held.now c.order.new.output c.order.result state _ h
    (subst (λ ordering. Prints c.args.held.now.output c.order.new.output c.order.result (line_of (order_text ordering)))
    (c.compare_given-ordering.ensures.order (value_of state c.args.a).clusters (value_of state c.args.b).clusters left.represents right.represents already) c.order.ensures)
