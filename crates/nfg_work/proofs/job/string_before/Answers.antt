use Rattle.std.proofs.Common.{arith}
use Rattle.nfg_work.proofs.JobsDone.{definition_found, string_found}
use Rattle.nfg_work.proofs.job.string_before.Goals as goal

pub returns-in-Some-Made : goal.returns-in-Some-Made
returns-in-Some-Made c = λ known right.
    let place = c.in-Some.ensures.lookup in
    let here = c.in-Some-Made.ensures.lookup in
    let defined = definition_found c.args.work.script.now c.args.work.plan.now c.deref.result.now c.args.name c.in-Some.at.now c.requires.plan c.deref.ensures.value
    place.3.0 place.1 in
    string_found known c.args.work.script.now c.args.work.reads.now c.args.work.outcomes.now c.args.k c.args.name c.in-Some.at.now c.in-Some-Made.field-0.now c.in-Some-Made.string
    defined (omega (arith, c.if-at-k.false)) right here.3.0 here.1 c.in-Some-Made.field-0-is
