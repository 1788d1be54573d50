use Rattle.std.proofs.Common.{ap, subst, ◌∙◌, slice_index_or}
use Rattle.nfg_work.specs.Evaluation.{value_of}
use Rattle.nfg_work.specs.Holding.{Prints}
use Rattle.nfg_work.specs.Printing.{truth_text, line_of}
use Rattle.nfg_work.proofs.Answered.{printed_does}
use Rattle.nfg_work.proofs.Parts.{named, named_graphemes}
use Rattle.nfg_work.proofs.comparing.print_eq.Goals as goal

pub equal_given-holds-requires-clause-left : goal.equal_given-holds-requires-clause-left
equal_given-holds-requires-clause-left g c κs within =
    let held = c.requires.held in
    let nothing = c.empty-nothing.result in
    named_graphemes (g.T.Synthetics.seen c.args.pass.now).known held.0 c.args.held.now c.args.a nothing c.string_of_name-left.result.now held.1 c.empty-nothing.ensures.graphemes c.empty-nothing.ensures.pieces
    (c.string_of_name-left.ensures ∙ ap (λ v. slice_index_or v c.args.a nothing) c.deref.ensures.value)

pub equal_given-holds-requires-clause-right : goal.equal_given-holds-requires-clause-right
equal_given-holds-requires-clause-right g c κs within =
    let held = c.requires.held in
    let nothing = c.empty-nothing.result in
    named_graphemes (g.T.Synthetics.seen c.args.pass.now).known held.0 c.args.held.now c.args.b nothing c.string_of_name-right.result.now held.1 c.empty-nothing.ensures.graphemes c.empty-nothing.ensures.pieces
    (c.string_of_name-right.ensures ∙ ap (λ v. slice_index_or v c.args.b nothing) c.deref-2.ensures.value)

pub returns : goal.returns
returns g c = λ reads state h already.
    let nothing = c.empty-nothing.result in
    let left = named (g.T.Synthetics.seen c.args.pass.now).known reads c.args.held.now state c.args.a nothing c.string_of_name-left.result.now h c.empty-nothing.ensures.graphemes c.empty-nothing.ensures.pieces
    (c.string_of_name-left.ensures ∙ ap (λ v. slice_index_or v c.args.a nothing) c.deref.ensures.value) in
    let right = named (g.T.Synthetics.seen c.args.pass.now).known reads c.args.held.now state c.args.b nothing c.string_of_name-right.result.now h c.empty-nothing.ensures.graphemes c.empty-nothing.ensures.pieces
    (c.string_of_name-right.ensures ∙ ap (λ v. slice_index_or v c.args.b nothing) c.deref-2.ensures.value) in
    printed_does (g.T.Synthetics.seen c.args.pass.now).known reads c.args.held.now c.truth.new.output c.truth.result state _ h
    (subst (λ holds. Prints c.args.held.now.output c.truth.new.output c.truth.result (line_of (truth_text holds)))
    (c.equal_given-holds.ensures (value_of state c.args.a).clusters (value_of state c.args.b).clusters left.represents right.represents already) c.truth.ensures)
