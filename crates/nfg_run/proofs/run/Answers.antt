use Rattle.nfg_run.proofs.Faultless.{read_fault-rose, faultless}
use Rattle.nfg_run.proofs.run.Goals as goal

pub returns-in-Ok-write_all-clause-read_fault_rose : goal.returns-in-Ok-write_all-clause-read_fault_rose
returns-in-Ok-write_all-clause-read_fault_rose g c = λ e.
    read_fault-rose c.failed_read_is_cause.ensures c.args.words.now (g.F.Files.state c.args.files.now) (g.F.Files.state c.answer_words.new.files)
    c.in-Ok.answer c.in-Ok.ensures.answered e

pub returns-in-Ok-write_all-clause-faultless : goal.returns-in-Ok-write_all-clause-faultless
returns-in-Ok-write_all-clause-faultless g c = λ memory files out.
    faultless c.failed_read_is_cause.ensures c.args.words.now (g.F.Files.state c.args.files.now) (g.F.Files.state c.answer_words.new.files)
    c.in-Ok.answer c.in-Ok.ensures.answered files
