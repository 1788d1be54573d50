use Rattle.std.proofs.Common.{take, arith}
use Rattle.std.proofs.lemmas.List.{length-take}
use Rattle.nfg_segment.proofs.SettledRuns.{settled-part, ids-part, safe-place, at_most}
use Rattle.nfg_segment.proofs.settled_run.settled_len.Goals as goal

pub returns-clause-safe : goal.returns-clause-safe
returns-clause-safe c =
    let read = c.settled_front-front in
    safe-place c.args.text.now (take read.result read.new.ids) read.result c.last_safe.result c.requires.first read.ensures.ids c.last_safe.ensures.within c.last_safe.ensures.safe

pub returns-clause-settled : goal.returns-clause-settled
returns-clause-settled c =
    let front = c.settled_front-front.result in
    settled-part c.args.text.now front c.last_safe.result c.settled_front-front.ensures.within
    (omega (arith, at_most c.last_safe.result _ c.last_safe.ensures.within, length-take front c.settled_front-front.new.ids))
    c.settled_front-front.ensures.settled

pub returns-clause-ids : goal.returns-clause-ids
returns-clause-ids c =
    let front = c.settled_front-front.result in
    ids-part c.args.text.now c.settled_front-front.new.ids front c.last_safe.result
    (omega (arith, at_most c.last_safe.result _ c.last_safe.ensures.within, length-take front c.settled_front-front.new.ids))
    c.settled_front-front.ensures.ids
