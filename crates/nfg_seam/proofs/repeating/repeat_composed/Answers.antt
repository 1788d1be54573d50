use Rattle.std.proofs.Common.{◌≤◌, ◌*◌, length, subst}
use Rattle.nfg_text.specs.Operations.{repetition}
use Rattle.nfg_syn.specs.RepresentsLaws.{Represents-grows, Represents-length}
use Rattle.nfg_seam.specs.ConcatPieces.{repetition_pieces}
use Rattle.nfg_seam.specs.Made.{length_limit}
use Rattle.nfg_seam.proofs.RepeatLearned.{Refused-last}
use Rattle.nfg_seam.proofs.RepeatMade.{joined-made, joined-refused, settled-pieces}
use Rattle.nfg_seam.proofs.repeating.repeat_composed.Goals as goal

pub returns-in-Ok-settled-clause-repeated : goal.returns-in-Ok-settled-clause-repeated
returns-in-Ok-settled-clause-repeated g c list are =
    let old = g.T.Synthetics.seen c.args.pass.now in
    let new = g.T.Synthetics.seen c.number_again.new.pass in
    let ns = c.args.a.now.graphemes in
    let ps = c.args.a.now.pieces in
    let n = c.args.n in
    let numbers = c.in-Ok.numbers.items in
    let within = subst (λ k. k * n ≤ length_limit) (Represents-length old.known ns list are) c.requires.bounded in
    let all = c.in-Ok.ensures.numbers list are in
    let knows = g.met.T.Synthetics.knows c.args.table.now c.number_again.new.pass c.in-Ok.ensures.table in
    joined-made (length list * n) (repetition list n) (repetition_pieces list ps n) old new c.in-Ok-settled.made numbers within
    (c.in-Ok.ensures.short list are) all c.in-Ok-settled.ensures.graphemes
    (settled-pieces (g.T.Synthetics.size c.args.table.now) new.known new.places knows list ns numbers ps c.in-Ok-settled.made.pieces n c.requires.several
    (Represents-grows old.known new.known c.in-Ok.ensures.keeps.known ns list are) all.represents c.in-Ok-settled.ensures.again c.in-Ok-settled.ensures.anew)

pub returns-in-Err-settled-clause-repeated : goal.returns-in-Err-settled-clause-repeated
returns-in-Err-settled-clause-repeated g c list are =
    Refused-last (repetition list c.args.n) (g.T.Synthetics.seen c.args.pass.now).known (g.T.Synthetics.seen c.number_again.new.pass).known
    (c.in-Ok.ensures.numbers list are).learned

pub returns-in-Err-clause-repeated : goal.returns-in-Err-clause-repeated
returns-in-Err-clause-repeated g c list are =
    let old = g.T.Synthetics.seen c.args.pass.now in
    joined-refused (length list * c.args.n) (repetition list c.args.n) (repetition_pieces list c.args.a.now.pieces c.args.n) old
    (g.T.Synthetics.seen c.number_again.new.pass) c.in-Err.error
    (subst (λ k. k * c.args.n ≤ length_limit) (Represents-length old.known c.args.a.now.graphemes list are) c.requires.bounded)
    (c.in-Err.ensures.refused list are)
