use Rattle.std.proofs.Common.{◌*◌, ◌∙◌, length, sym, subst}
use Rattle.nfg_text.specs.Operations.{repetition}
use Rattle.nfg_text.specs.Text.{IsText}
use Rattle.nfg_syn.specs.KnownLaws.{IsWithin-same, IsWithin-same_back}
use Rattle.nfg_syn.specs.RepresentsLaws.{Represents-grows}
use Rattle.nfg_seam.specs.ConcatPieces.{repetition_pieces}
use Rattle.nfg_seam.proofs.RepeatSeam.{joined-from}
use Rattle.nfg_seam.proofs.RepeatSpelled.{Represents-text}
use Rattle.nfg_seam.proofs.repeating.repeat_through.Goals as goal

pub repeat_text-requires-clause-text : goal.repeat_text-requires-clause-text
repeat_text-requires-clause-text g c κs within =
    let seen = g.T.Synthetics.seen c.args.pass.now in
    let list = c.requires.graphemes.0 in
    let are = c.requires.graphemes.1 in
    subst IsText (sym (c.as_slice.ensures ∙ c.in-Ok.ensures.spelled list are))
    (Represents-text (g.T.Synthetics.size c.args.table.now) seen.known seen.places (g.met.T.Synthetics.knows c.args.table.now c.args.pass.now c.requires.table) c.args.a.now.graphemes list are)

pub repeat_text-requires-clause-spelled : goal.repeat_text-requires-clause-spelled
repeat_text-requires-clause-spelled g c κs within = λ list are.
    c.as_slice.ensures ∙ c.in-Ok.ensures.spelled list (Represents-grows _ _ (IsWithin-same_back _ _ c.in-Ok.ensures.known) c.args.a.now.graphemes list are)

pub returns-in-Ok-clause-repeated : goal.returns-in-Ok-clause-repeated
returns-in-Ok-clause-repeated g c = λ list are.
    let old = g.T.Synthetics.seen c.args.pass.now in
    let mid = g.T.Synthetics.seen c.text_of_string.new.pass in
    let n = c.args.n in
    joined-from (length list * n) (repetition list n) (repetition_pieces list c.args.a.now.pieces n) old mid
    (g.T.Synthetics.seen c.repeat_text.new.pass) c.repeat_text.result c.in-Ok.ensures.known
    (c.repeat_text.ensures.repeated list (Represents-grows old.known mid.known (IsWithin-same old.known mid.known c.in-Ok.ensures.known) c.args.a.now.graphemes list are))
