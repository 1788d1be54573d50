use Rattle.std.proofs.Common.{◌*◌, length}
use Rattle.nfg_text.specs.Operations.{repetition}
use Rattle.nfg_syn.specs.KnownLaws.{IsWithin-same_back}
use Rattle.nfg_syn.specs.RepresentsLaws.{Represents-grows}
use Rattle.nfg_seam.specs.ConcatPieces.{repetition_pieces}
use Rattle.nfg_seam.proofs.RepeatSeam.{joined-from}
use Rattle.nfg_seam.proofs.SeamReading.{Represents-asked}
use Rattle.nfg_seam.proofs.repeating.repeat_text.Goals as goal

pub repeat_in_pairs-requires-clause-spelled : goal.repeat_in_pairs-requires-clause-spelled
repeat_in_pairs-requires-clause-spelled g c κs within = λ list are.
    c.requires.spelled list (Represents-grows _ _ (IsWithin-same_back _ _ c.parts_in_pairs.ensures.asked.known) c.args.a.now.graphemes list are)

pub repeat_in_pairs-requires-clause-boundary : goal.repeat_in_pairs-requires-clause-boundary
repeat_in_pairs-requires-clause-boundary g c κs within = λ list are.
    c.parts_in_pairs.ensures.boundary list (Represents-grows _ _ (IsWithin-same_back _ _ c.parts_in_pairs.ensures.asked.known) c.args.a.now.graphemes list are)
    c.if-parts_in_pairs.true

pub returns-then-parts_in_pairs-clause-repeated : goal.returns-then-parts_in_pairs-clause-repeated
returns-then-parts_in_pairs-clause-repeated g c = λ list are.
    let old = g.T.Synthetics.seen c.args.pass.now in
    let mid = g.T.Synthetics.seen c.parts_in_pairs.new.pass in
    let n = c.args.n in
    joined-from (length list * n) (repetition list n) (repetition_pieces list c.args.a.now.pieces n) old mid
    (g.T.Synthetics.seen c.repeat_in_pairs.new.pass) c.repeat_in_pairs.result c.parts_in_pairs.ensures.asked.known
    (c.repeat_in_pairs.ensures.repeated list (Represents-asked old mid c.parts_in_pairs.ensures.asked c.args.a.now.graphemes list are))

pub returns-clause-repeated : goal.returns-clause-repeated
returns-clause-repeated g c = λ list are.
    let old = g.T.Synthetics.seen c.args.pass.now in
    let mid = g.T.Synthetics.seen c.parts_in_pairs.new.pass in
    let n = c.args.n in
    joined-from (length list * n) (repetition list n) (repetition_pieces list c.args.a.now.pieces n) old mid
    (g.T.Synthetics.seen c.repeat_composed.new.pass) c.repeat_composed.result c.parts_in_pairs.ensures.asked.known
    (c.repeat_composed.ensures.repeated list (Represents-asked old mid c.parts_in_pairs.ensures.asked c.args.a.now.graphemes list are))
