use Rattle.nfg_work.proofs.GivenOutcomes.{IsWithin-met}
use Rattle.nfg_work.proofs.PartStrings.{IsStringOrNone-grows, IsOfSomeBytes-grows, met_bytes}
use Rattle.nfg_work.proofs.part_joining.meet_one.Goals as goal

pub join_both-requires-clause-left : goal.join_both-requires-clause-left
join_both-requires-clause-left g c κs within =
    let into = g.T.Synthetics.seen c.args.pass.now in
    let fork = g.T.Synthetics.seen c.args.loader.pass in
    let mid = g.T.Synthetics.seen c.meet.new.into in
    IsOfSomeBytes-grows fork.known mid.known (IsWithin-met into.known fork.known mid.known c.in-Ok.ensures.met.known) c.args.loader.string c.requires.string

pub join_both-requires-clause-right : goal.join_both-requires-clause-right
join_both-requires-clause-right g c κs within =
    let into = g.T.Synthetics.seen c.args.pass.now in
    let mid = g.T.Synthetics.seen c.meet.new.into in
    IsOfSomeBytes-grows into.known mid.known c.in-Ok.ensures.keeps.known c.args.behind c.requires.behind

pub returns-in-Ok-clause-joined : goal.returns-in-Ok-clause-joined
returns-in-Ok-clause-joined g c = λ e part back goes_on loaded behind.
    let into = g.T.Synthetics.seen c.args.pass.now in
    let fork = g.T.Synthetics.seen c.args.loader.pass in
    let mid = g.T.Synthetics.seen c.meet.new.into in
    let new = g.T.Synthetics.seen c.join_both.new.pass in
    let met = c.in-Ok.ensures.met in
    let left = IsStringOrNone-grows fork.known mid.known (IsWithin-met into.known fork.known mid.known met.known) e part c.args.loader.string loaded.string in
    let right = IsStringOrNone-grows into.known mid.known c.in-Ok.ensures.keeps.known e back c.args.behind behind in
    met_bytes e part back into fork mid new c.args.loader.string c.join_both.result met loaded (c.join_both.ensures.joined e part back goes_on left right)
