use Rattle.std.proofs.Common.{ap, ◌∙◌, slice_index_or}
use Rattle.nfg_work.specs.Evaluation.{value_of}
use Rattle.nfg_work.proofs.Parts.{named}
use Rattle.nfg_work.proofs.Answered.{printed_does}
use Rattle.nfg_work.proofs.answering.print_show.Goals as goal

pub show-requires-clause-known : goal.show-requires-clause-known
show-requires-clause-known g c κs within =
    let held = c.requires.held in
    let nothing = c.empty-nothing.result in
    let is = named (g.T.Synthetics.seen c.args.pass.now).known held.0 c.args.held.now held.1.0 c.args.a nothing c.string_of_name-string.result.now held.1.1 c.empty-nothing.ensures.graphemes c.empty-nothing.ensures.pieces
    (c.string_of_name-string.ensures ∙ ap (λ v. slice_index_or v c.args.a nothing) c.deref.ensures.value) in
    ((value_of held.1.0 c.args.a).clusters, is.represents)

pub returns-clause-printed : goal.returns-clause-printed
returns-clause-printed g c = λ reads state h.
    let nothing = c.empty-nothing.result in
    let is = named (g.T.Synthetics.seen c.args.pass.now).known reads c.args.held.now state c.args.a nothing c.string_of_name-string.result.now h c.empty-nothing.ensures.graphemes c.empty-nothing.ensures.pieces
    (c.string_of_name-string.ensures ∙ ap (λ v. slice_index_or v c.args.a nothing) c.deref.ensures.value) in
    printed_does (g.T.Synthetics.seen c.args.pass.now).known reads c.args.held.now c.show.new.output c.show.result state _ h
    (c.show.ensures.shown (value_of state c.args.a).clusters is.represents)
