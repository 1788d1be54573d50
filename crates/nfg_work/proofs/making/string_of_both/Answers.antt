use Rattle.nfg_work.proofs.Wanted.{both_made, both_stopped}
use Rattle.nfg_work.proofs.making.string_of_both.Goals as goal

pub returns-in-Ok-clause-made : goal.returns-in-Ok-clause-made
returns-in-Ok-clause-made g c = λ a b is_left is_right. both_made (g.T.Synthetics.seen c.args.pass.now).known c.args.left.now c.args.right.now a b (g.T.Synthetics.seen c.args.pass.now) (g.T.Synthetics.seen c.concat.new.pass) c.in-Ok.string is_left is_right
    (c.in-Ok.ensures.joined a.clusters b.clusters is_left.represents is_right.represents)

pub returns-in-Err-clause-made : goal.returns-in-Err-clause-made
returns-in-Err-clause-made g c = λ a b is_left is_right. both_stopped (g.T.Synthetics.seen c.args.pass.now).known c.args.left.now c.args.right.now a b (g.T.Synthetics.seen c.args.pass.now) (g.T.Synthetics.seen c.concat.new.pass) c.in-Err.error c.stop_of_seam.result is_left is_right
    (c.in-Err.ensures.joined a.clusters b.clusters is_left.represents is_right.represents) c.stop_of_seam.ensures
