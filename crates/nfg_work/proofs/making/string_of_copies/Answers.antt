use Rattle.nfg_work.proofs.Wanted.{copies_made, copies_stopped}
use Rattle.nfg_work.proofs.making.string_of_copies.Goals as goal

pub returns-in-Ok-clause-made : goal.returns-in-Ok-clause-made
returns-in-Ok-clause-made g c = λ a is. copies_made (g.T.Synthetics.seen c.args.pass.now).known c.args.string.now a c.args.times (g.T.Synthetics.seen c.args.pass.now) (g.T.Synthetics.seen c.repeat.new.pass) c.in-Ok.string is
    (c.in-Ok.ensures.repeated a.clusters is.represents)

pub returns-in-Err-clause-made : goal.returns-in-Err-clause-made
returns-in-Err-clause-made g c = λ a is. copies_stopped (g.T.Synthetics.seen c.args.pass.now).known c.args.string.now a c.args.times (g.T.Synthetics.seen c.args.pass.now) (g.T.Synthetics.seen c.repeat.new.pass) c.in-Err.error c.stop_of_seam.result is
    (c.in-Err.ensures.repeated a.clusters is.represents) c.stop_of_seam.ensures
