use Rattle.std.proofs.Common.{◌∙◌, sym, ap, subst, length}
use Rattle.nfg_text.specs.Plain.{singles}
use Rattle.nfg_segment.proofs.KeptLemmas.{with_clusters-singles, given_of}
use Rattle.nfg_stream.specs.Collected.{AreCounted}
use Rattle.nfg_stream.proofs.CollectedLemmas.{heads-run, counted-run}
use Rattle.nfg_stream.proofs.collected.CollectedClusterSink.push_run.Goals as goal

pub invariant_of-self : goal.invariant_of-self
invariant_of-self c =
    let s = c.self.inside in
    subst (AreCounted (length s.longer)) (sym c.in_err-append_codes.ensures.unchanged) c.self.invariant

pub invariant_of-self-2 : goal.invariant_of-self-2
invariant_of-self-2 c =
    let s = c.self.inside in
    counted-run (length s.longer) s.graphemes c.append_codes.new.self c.args.run.now c.in_ok-append_codes.ensures.appended c.self.invariant

pub returns-clause-pushed : goal.returns-clause-pushed
returns-clause-pushed c =
    let s = c.self.inside in
    let g = c.args.self.now in
    ap (λ l. given_of l s.first_long) (heads-run s.longer s.graphemes c.append_codes.new.self c.args.run.now g.heads c.in_ok-append_codes.ensures.appended (ap (λ v. v.heads) c.self.view_is))
    ∙ ap (given_of _) (ap (λ v. v.first_long) c.self.view_is) ∙ sym (with_clusters-singles g.heads g.first_long c.args.run.now)

pub returns-clause-grew : goal.returns-clause-grew
returns-clause-grew c =
    let s = c.self.inside in
    (singles c.args.run.now, heads-run s.longer s.graphemes c.append_codes.new.self c.args.run.now c.args.self.now.heads c.in_ok-append_codes.ensures.appended (ap (λ v. v.heads) c.self.view_is))
