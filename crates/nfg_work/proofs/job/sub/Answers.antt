use Rattle.nfg_work.proofs.Parts.{part_inside, part_is}
use Rattle.nfg_work.proofs.JobsDone.{part_done}
use Rattle.nfg_work.proofs.job.sub.Goals as goal

pub returns-in-Ok : goal.returns-in-Ok
returns-in-Ok c = λ size known places knows right numbered name here command.
    let whole = c.in-Some.ensures known right in
    let string = c.in-Some.string.now in
    let inside = part_inside string c.args.start c.in-Ok.part c.in-Ok.ensures.out_of_range.1 in
    let is_part = part_is size known places string c.in-Ok.part whole.value c.args.start c.args.count knows whole.is inside
    c.in-Ok.ensures.graphemes c.in-Ok.ensures.pieces in
    part_done known c.args.work.script.now c.args.work.reads.now c.args.k name c.args.a c.args.start c.args.count numbered string c.in-Ok.part here command whole inside is_part
