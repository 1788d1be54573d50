use Rattle.std.proofs.Common.{subst, ◌*◌, length}
use Rattle.nfg_work.specs.Given.{IsAlreadyMade}
use Rattle.nfg_work.specs.Making.{rep_wanted}
use Rattle.nfg_work.specs.Values.{repeated}
use Rattle.nfg_work.proofs.Taken.{already_made, many_short}
use Rattle.nfg_work.proofs.given_strings.copies_given.Goals as goal

pub returns-in-Some-clause-made : goal.returns-in-Some-clause-made
returns-in-Some-clause-made g c = λ a is already.
    already_made (rep_wanted a c.args.times) (g.T.Synthetics.seen c.args.pass.now) c.in-Some.string (many_short (length a.clusters * c.args.times) (repeated a c.args.times)) (subst (IsAlreadyMade (rep_wanted a c.args.times) (g.T.Synthetics.seen c.args.pass.now).known) c.in-Some.is already)
