use Rattle.std.proofs.Common.{ap, subst, ◌∙◌, slice_index_or, ℕ}
use Rattle.std.specs.Fmt.{decimal}
use Rattle.nfg_syn.specs.RepresentsLaws.{Represents-length}
use Rattle.nfg_work.specs.Printing.{line_of}
use Rattle.nfg_work.specs.Evaluation.{value_of}
use Rattle.nfg_work.specs.Holding.{Prints}
use Rattle.nfg_work.proofs.Parts.{named}
use Rattle.nfg_work.proofs.Answered.{printed_does}
use Rattle.nfg_work.proofs.answering.print_len.Goals as goal

pub returns : goal.returns
returns c = λ known reads state h.
    let nothing = c.empty-nothing.result in
    let string = c.string_of_name-string.result.now in
    let is = named known reads c.args.held.now state c.args.a nothing string h c.empty-nothing.ensures.graphemes c.empty-nothing.ensures.pieces
    (c.string_of_name-string.ensures ∙ ap (λ v. slice_index_or v c.args.a nothing) c.deref.ensures.value) in
    let long = Represents-length known string.graphemes (value_of state c.args.a).clusters is.represents in
    let P : ℕ → Type 0 = λ n. Prints c.args.held.now.output c.len.new.output c.len.result (line_of (decimal n)) in
    printed_does known reads c.args.held.now c.len.new.output c.len.result state _ h (subst P long c.len.ensures)
