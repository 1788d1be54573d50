use Rattle.std.proofs.Common.{subst}
use Rattle.nfg_work.specs.PartJoining.{IsOfSomeBytes}
use Rattle.nfg_work.proofs.PartStrings.{graphemes_of_bytes}
use Rattle.nfg_work.proofs.part_joining.join_both.Goals as goal

pub join_two-requires-clause-left : goal.join_two-requires-clause-left
join_two-requires-clause-left g c κs within =
    let known = (g.T.Synthetics.seen c.args.pass.now).known in
    let of = subst (IsOfSomeBytes known) c.in-Some-Some.is-0 c.requires.left in
    graphemes_of_bytes known of.0 of.1 c.in-Some-Some.left of.2

pub join_two-requires-clause-right : goal.join_two-requires-clause-right
join_two-requires-clause-right g c κs within =
    let known = (g.T.Synthetics.seen c.args.pass.now).known in
    let of = subst (IsOfSomeBytes known) c.in-Some-Some.is-1 c.requires.right in
    graphemes_of_bytes known of.0 of.1 c.in-Some-Some.right of.2
