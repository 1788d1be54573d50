use Rattle.std.proofs.Common.{subst, ◌+◌, length}
use Rattle.nfg_work.specs.Given.{IsAlreadyMade}
use Rattle.nfg_work.specs.Making.{cat_wanted}
use Rattle.nfg_work.specs.Values.{joined}
use Rattle.nfg_work.proofs.Taken.{already_made, many_short}
use Rattle.nfg_work.proofs.given_strings.both_given.Goals as goal

pub returns-in-Some-clause-made : goal.returns-in-Some-clause-made
returns-in-Some-clause-made g c = λ a b is_left is_right already.
    already_made (cat_wanted a b) (g.T.Synthetics.seen c.args.pass.now) c.in-Some.string (many_short (length a.clusters + length b.clusters) (joined a b)) (subst (IsAlreadyMade (cat_wanted a b) (g.T.Synthetics.seen c.args.pass.now).known) c.in-Some.is already)
