use Rattle.std.proofs.Common.{arith, refl}
use Rattle.nfg_decode.specs.Tail.{bytes_of}
use Rattle.nfg_decode.proofs.MarkLemmas.{undecided_opens, marked_opens, absent_opens}
use Rattle.nfg_decode.proofs.mark.look_for_mark.Goals as goal

pub returns-in-Undecided-clause-opens : goal.returns-in-Undecided-clause-opens
returns-in-Undecided-clause-opens c m =
    undecided_opens (bytes_of c.args.tail) c.args.piece.now _ c.fill_seam-len.ensures.bytes c.tail_of.result _ c.tail_of.ensures c.in-Undecided.ensures

pub returns-in-Is-clause-opens : goal.returns-in-Is-clause-opens
returns-in-Is-clause-opens c m =
    marked_opens (bytes_of c.args.tail) c.args.piece.now _ c.fill_seam-len.ensures.bytes c.in-Is.order c.saturating_sub.result m c.in-Is.ensures (omega arith)

pub returns-in-Absent-clause-opens : goal.returns-in-Absent-clause-opens
returns-in-Absent-clause-opens c m =
    absent_opens (bytes_of c.args.tail) c.args.piece.now _ c.fill_seam-len.ensures.bytes c.args.tail refl m c.in-Absent.ensures
