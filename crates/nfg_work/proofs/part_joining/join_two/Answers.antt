use Rattle.std.proofs.Common.{◌++◌, Ok, Err}
use Rattle.nfg_work.proofs.PartStrings.{joined_bytes, none_of_bytes}
use Rattle.nfg_work.proofs.part_joining.join_two.Goals as goal

pub returns-in-Ok-clause-joined : goal.returns-in-Ok-clause-joined
returns-in-Ok-clause-joined g c = λ e front back goes_on left right.
    let old = g.T.Synthetics.seen c.args.pass.now in
    let new = g.T.Synthetics.seen c.concat.new.pass in
    let made = joined_bytes e front back c.args.left.now c.args.right.now old new (Ok c.in-Ok.string) goes_on left right c.in-Ok.ensures.joined in
    record { grown = made.0; string = made.1 }

pub returns-in-Err-clause-joined : goal.returns-in-Err-clause-joined
returns-in-Err-clause-joined g c = λ e front back goes_on left right.
    let old = g.T.Synthetics.seen c.args.pass.now in
    let new = g.T.Synthetics.seen c.concat.new.pass in
    let made = joined_bytes e front back c.args.left.now c.args.right.now old new (Err c.in-Err.error) goes_on left right c.in-Err.ensures.joined in
    record { grown = made.0; string = none_of_bytes new.known e (front ++ back) c.none_joined.result c.none_joined.ensures }
