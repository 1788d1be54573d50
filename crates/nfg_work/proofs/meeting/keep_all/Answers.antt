use Rattle.std.proofs.lemmas.List.Elements.{All-pop}
use Rattle.nfg_work.specs.Outcomes.{IsRightAt}
use Rattle.nfg_work.proofs.meeting.keep_all.Goals as goal

pub keeping-init : goal.keeping-init
keeping-init c = λ known script reads are given. (are, given)

pub keeping-preserved : goal.keeping-preserved
keeping-preserved c = λ known script reads are given.
    let had = c.keeping.invariant known script reads are given in
    let popped = All-pop (λ one. IsRightAt known script reads one.command one.outcome) c.keeping.given.items c.pop.new.self.items c.pop.result c.pop.ensures.items had.1 in
    let right : IsRightAt known script reads c.in-Some.one.command c.in-Some.one.outcome = rw c.in-Some.is at popped.1 in
    (c.keep.ensures known script reads had.0 right, popped.0)

pub returns : goal.returns
returns c = λ known script reads are given. (c.keeping.invariant known script reads are given).0
