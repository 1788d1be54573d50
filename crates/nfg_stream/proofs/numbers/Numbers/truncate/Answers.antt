use Rattle.std.proofs.Common.{sym, subst, take}
use Rattle.nfg_stream.specs.Numbers.{AreKept}
use Rattle.nfg_stream.proofs.NumbersLemmas.{AreKept-take}
use Rattle.nfg_stream.proofs.numbers.Numbers.truncate.Goals as goal

pub invariant_of-self : goal.invariant_of-self
invariant_of-self c =
    let s = c.self.inside in
    subst (AreKept c.truncate.new.self.items) (sym c.truncate-2.ensures.items)
    (subst (λ l. AreKept l (take c.args.len s.wide.items)) (sym c.truncate.ensures.items) (AreKept-take c.args.len s.narrow.items s.wide.items c.self.invariant))
