use Rattle.nfg_work.proofs.JobsDone.{text_done, codes_are}
use Rattle.nfg_work.proofs.job.text.Goals as goal

pub returns-clause-done : goal.returns-clause-done
returns-clause-done g c = λ numbered name at command.
    text_done c.args.work.script.now c.args.work.reads.now c.args.k name numbered (g.T.Synthetics.seen c.args.pass.now) (g.T.Synthetics.seen c.string_of_text.new.pass) c.codes.result.now
    c.string_of_text.result c.outcome_of.result at command (codes_are c.args.work.script.now c.args.k c.codes.result.now numbered at c.codes.ensures.codes)
    c.string_of_text.ensures.made c.outcome_of.ensures
