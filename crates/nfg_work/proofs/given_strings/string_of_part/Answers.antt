use Rattle.std.proofs.Common.{Err, ap, refl}
use Rattle.nfg_work.proofs.Parts.{part_inside, part_is}
use Rattle.nfg_work.proofs.given_strings.string_of_part.Goals as goal

pub returns-in-Ok : goal.returns-in-Ok
returns-in-Ok c = λ size known places value knows is.
    let inside = part_inside c.args.string.now c.args.start c.in-Ok.part c.in-Ok.ensures.out_of_range.1 in
    (inside, part_is size known places c.args.string.now c.in-Ok.part value c.args.start c.args.count knows is inside c.in-Ok.ensures.graphemes c.in-Ok.ensures.pieces)

pub returns-in-Err-OutOfRange : goal.returns-in-Err-OutOfRange
returns-in-Err-OutOfRange c = λ size known places value knows is.
    (refl, c.in-Err-OutOfRange.ensures.out_of_range.0 (ap (λ e. Err e) c.in-Err-OutOfRange.field-0-is))
