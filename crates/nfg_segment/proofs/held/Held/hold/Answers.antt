use Rattle.std.proofs.Common.{ap, sym, subst}
use Rattle.nfg_segment.specs.Follows.{Follows}
use Rattle.nfg_segment.proofs.Steps.{held, follows-hold}
use Rattle.nfg_segment.proofs.held.Held.hold.Goals as goal

pub returns-clause-follows : goal.returns-clause-follows
returns-clause-follows c fed given none f =
    let s = c.self.inside in
    let here = subst (λ h. Follows h fed given) (sym (ap (λ v. v.now) c.self.view_is)) f in
    follows-hold (held s.cluster.now s.tail.current) c.extend.new.self.current fed c.args.text.now given none here c.in_ok-extend.ensures.current
