-- the range is the whole string
use Rattle.std.proofs.Common.{◌-◌, ◌++◌, slice_range, ap, ◌∙◌, arith}
use Rattle.std.proofs.lemmas.List.{take_all}
use Rattle.nfg_text.specs.Text.{text_of}
use Rattle.nfg_syn.specs.RepresentsLaws.{Represents-length}
use Rattle.nfg_ops.proofs.spelled.codes.Goals as goal

pub returns-in-Ok-clause-text : goal.returns-in-Ok-clause-text
returns-in-Ok-clause-text g c = λ clusters represents.
    let long = Represents-length _ c.args.a.now.graphemes clusters represents in
    let len = c.len-2.ensures.len in
    c.in-Ok.ensures.added clusters represents
    ∙ ap (λ t. t ++ text_of (slice_range clusters 0 c.len-2.result)) (c.reserve.ensures ∙ c.new-text.ensures)
    ∙ ap text_of (take_all (c.len-2.result - 0) clusters (omega (arith, long, len)))
