use Rattle.std.proofs.Common.{subst}
use Rattle.nfg_decode.specs.Encoding.{decode}
use Rattle.nfg_work.specs.Given.{IsAlreadyMade}
use Rattle.nfg_work.specs.Making.{file_value}
use Rattle.nfg_work.proofs.Taken.{already_made, file_short}
use Rattle.nfg_work.proofs.given_strings.file_given.Goals as goal

pub returns-in-Some-clause-made : goal.returns-in-Some-clause-made
returns-in-Some-clause-made g c = λ already.
    let decoded = decode c.args.e c.args.bytes.now in
    already_made (file_value decoded) (g.T.Synthetics.seen c.args.pass.now) c.in-Some.string (file_short decoded) (subst (IsAlreadyMade (file_value decoded) (g.T.Synthetics.seen c.args.pass.now).known) c.in-Some.is already)
