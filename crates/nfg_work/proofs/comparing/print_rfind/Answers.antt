use Rattle.std.proofs.Common.{ap, subst, ◌∙◌, slice_index_or}
use Rattle.nfg_work.specs.Evaluation.{value_of}
use Rattle.nfg_work.specs.Holding.{Prints}
use Rattle.nfg_work.specs.Printing.{place_text, line_of}
use Rattle.nfg_work.proofs.Answered.{printed_does}
use Rattle.nfg_work.proofs.Parts.{named, named_known}
use Rattle.nfg_work.proofs.comparing.print_rfind.Goals as goal

pub rindex_given-found-requires-clause-string : goal.rindex_given-found-requires-clause-string
rindex_given-found-requires-clause-string g c κs within =
    let held = c.requires.held in
    let nothing = c.empty-nothing.result in
    named_known (g.T.Synthetics.seen c.args.pass.now).known held.0 c.args.held.now c.args.a nothing c.string_of_name-string.result.now held.1 c.empty-nothing.ensures.graphemes c.empty-nothing.ensures.pieces
    (c.string_of_name-string.ensures ∙ ap (λ v. slice_index_or v c.args.a nothing) c.deref.ensures.value)

pub rindex_given-found-requires-clause-part : goal.rindex_given-found-requires-clause-part
rindex_given-found-requires-clause-part g c κs within =
    let held = c.requires.held in
    let nothing = c.empty-nothing.result in
    named_known (g.T.Synthetics.seen c.args.pass.now).known held.0 c.args.held.now c.args.b nothing c.string_of_name-part.result.now held.1 c.empty-nothing.ensures.graphemes c.empty-nothing.ensures.pieces
    (c.string_of_name-part.ensures ∙ ap (λ v. slice_index_or v c.args.b nothing) c.deref-2.ensures.value)

pub returns : goal.returns
returns g c = λ reads state h already.
    let nothing = c.empty-nothing.result in
    let string = named (g.T.Synthetics.seen c.args.pass.now).known reads c.args.held.now state c.args.a nothing c.string_of_name-string.result.now h c.empty-nothing.ensures.graphemes c.empty-nothing.ensures.pieces
    (c.string_of_name-string.ensures ∙ ap (λ v. slice_index_or v c.args.a nothing) c.deref.ensures.value) in
    let part = named (g.T.Synthetics.seen c.args.pass.now).known reads c.args.held.now state c.args.b nothing c.string_of_name-part.result.now h c.empty-nothing.ensures.graphemes c.empty-nothing.ensures.pieces
    (c.string_of_name-part.ensures ∙ ap (λ v. slice_index_or v c.args.b nothing) c.deref-2.ensures.value) in
    printed_does (g.T.Synthetics.seen c.args.pass.now).known reads c.args.held.now c.place.new.output c.place.result state _ h
    (subst (λ found. Prints c.args.held.now.output c.place.new.output c.place.result (line_of (place_text found)))
    (c.rindex_given-found.ensures (value_of state c.args.a).clusters (value_of state c.args.b).clusters string.represents part.represents already) c.place.ensures)
