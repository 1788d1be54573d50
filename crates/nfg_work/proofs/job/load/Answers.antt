use Rattle.nfg_work.proofs.JobsDone.{load_done, loads_found}
use Rattle.nfg_work.proofs.job.load.Goals as goal

pub returns-in-Some-Bytes-clause-done : goal.returns-in-Some-Bytes-clause-done
returns-in-Some-Bytes-clause-done g c = λ numbered name at command.
    let look = c.in-Some-Bytes.ensures.lookup in
    let index = c.index-loads.ensures in
    load_done c.args.work.script.now c.args.work.reads.now c.args.k name c.index-loads.result.now c.args.e c.in-Some-Bytes.field-0.now c.in-Some-Bytes.bytes c.as_slice.result.now numbered
    (g.T.Synthetics.seen c.args.pass.now) (g.T.Synthetics.seen c.string_of_file.new.pass) c.string_of_file.result c.outcome_of.result at command
    (loads_found c.args.work.script.now c.args.work.plan.now c.args.k c.index-loads.result.now c.requires.plan c.requires.place index)
    look.3.0 look.1 c.in-Some-Bytes.field-0-is c.as_slice.ensures c.string_of_file.ensures.made c.outcome_of.ensures
