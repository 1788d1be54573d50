use Rattle.nfg_work.proofs.Tables.{asked_none}
use Rattle.nfg_work.proofs.given_answers.compare_given.Goals as goal

pub returns-in-Some-clause-asked : goal.returns-in-Some-clause-asked
returns-in-Some-clause-asked g c = asked_none (g.T.Synthetics.seen c.args.pass.now)
