use Rattle.nfg_work.proofs.Answered.{command_at, command_is}
use Rattle.nfg_work.proofs.JobsDone.{loads_found}
use Rattle.nfg_work.proofs.LargeLoads.{file_at}
use Rattle.std.proofs.Common.{◌∙◌, sym}
use Rattle.nfg_work.proofs.large.large_file.Goals as goal

pub returns-else-len-least-clause-file : goal.returns-else-len-least-clause-file
returns-else-len-least-clause-file c =
    let script = c.args.script.now in
    let there = command_at script c.args.k c.requires.place in
    let look = c.in-Some-Bytes.ensures.lookup in
    file_at script c.args.reads.now c.args.k c.in-Load.name c.index-loads.result.now c.in-Load.enc c.in-Some-Bytes.field-0.now c.in-Some-Bytes.bytes
    c.as_slice.result.now there.0 there.1 (sym (command_is script c.args.k c.command.result there.0 there.1 c.command.ensures) ∙ c.in-Load.is)
    (loads_found script c.args.plan.now c.args.k c.index-loads.result.now c.requires.plan c.requires.place c.index-loads.ensures)
    look.3.0 look.1 c.in-Some-Bytes.field-0-is c.as_slice.ensures
