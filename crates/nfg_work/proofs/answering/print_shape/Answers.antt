use Rattle.std.proofs.Common.{ap, subst, ◌∙◌, slice_index_or}
use Rattle.nfg_work.specs.Printing.{shape, line_of}
use Rattle.nfg_work.specs.Holding.{Prints}
use Rattle.nfg_work.proofs.Parts.{named}
use Rattle.nfg_work.proofs.Answered.{printed_does}
use Rattle.nfg_work.proofs.answering.print_shape.Goals as goal

pub returns : goal.returns
returns c = λ known reads state h.
    let nothing = c.empty-nothing.result in
    let string = c.string_of_name-string.result.now in
    let is = named known reads c.args.held.now state c.args.a nothing string h c.empty-nothing.ensures.graphemes c.empty-nothing.ensures.pieces
    (c.string_of_name-string.ensures ∙ ap (λ v. slice_index_or v c.args.a nothing) c.deref.ensures.value) in
    printed_does known reads c.args.held.now c.shape.new.output c.shape.result state _ h
    (subst (λ ps. Prints c.args.held.now.output c.shape.new.output c.shape.result (line_of (shape ps))) is.pieces c.shape.ensures)
