use Rattle.std.proofs.Common.{subst}
use Rattle.nfg_text.specs.Graphemes.{graphemes_of}
use Rattle.nfg_work.specs.Given.{IsAlreadyMade}
use Rattle.nfg_work.specs.Making.{unless_long}
use Rattle.nfg_work.specs.Values.{flat}
use Rattle.nfg_work.proofs.Taken.{already_made, long_short}
use Rattle.nfg_work.proofs.given_strings.text_given.Goals as goal

pub returns-in-Some-clause-made : goal.returns-in-Some-clause-made
returns-in-Some-clause-made g c = λ already.
    let value = flat (graphemes_of c.args.codes.now) in
    already_made (unless_long value) (g.T.Synthetics.seen c.args.pass.now) c.in-Some.string (long_short value) (subst (IsAlreadyMade (unless_long value) (g.T.Synthetics.seen c.args.pass.now).known) c.in-Some.is already)
