use Rattle.std.proofs.Common.{sym, ap, subst, length}
use Rattle.nfg_stream.specs.Collected.{AreCounted}
use Rattle.nfg_stream.proofs.CollectedLemmas.{AreCounted-take, heads-cut}
use Rattle.nfg_stream.proofs.collected.CollectedClusterSink.cut_back.Goals as goal

pub invariant_of-self : goal.invariant_of-self
invariant_of-self c =
    let s = c.self.inside in
    subst (AreCounted (length s.longer)) (sym c.truncate.ensures) (AreCounted-take (length s.longer) c.args.len s.graphemes c.self.invariant)

pub returns-clause-heads : goal.returns-clause-heads
returns-clause-heads c =
    let s = c.self.inside in
    heads-cut s.longer s.graphemes c.truncate.new.self c.args.len c.args.self.now.heads c.truncate.ensures (ap (λ v. v.heads) c.self.view_is)
