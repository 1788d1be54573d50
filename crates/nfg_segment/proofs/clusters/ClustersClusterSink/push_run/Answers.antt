use Rattle.std.proofs.Common.{◌∙◌, sym, ap, length}
use Rattle.nfg_text.specs.Plain.{singles}
use Rattle.nfg_segment.proofs.KeptLemmas.{heads-run, counted-run, with_clusters-singles, given_of}
use Rattle.nfg_segment.proofs.clusters.ClustersClusterSink.push_run.Goals as goal

pub invariant_of-self-2 : goal.invariant_of-self-2
invariant_of-self-2 c =
    let s = c.self.inside in
    counted-run (length s.longer) s.numbers.items c.extend_from_slice.new.self.items c.args.run.now c.requires c.in_ok-extend_from_slice.ensures.items c.self.invariant

pub returns-clause-pushed : goal.returns-clause-pushed
returns-clause-pushed c =
    let s = c.self.inside in
    let g = c.args.self.now in
    ap (λ l. given_of l s.first_long) (heads-run s.longer s.numbers.items c.extend_from_slice.new.self.items c.args.run.now g.heads c.requires c.in_ok-extend_from_slice.ensures.items (ap (λ v. v.heads) c.self.view_is))
    ∙ ap (given_of _) (ap (λ v. v.first_long) c.self.view_is) ∙ sym (with_clusters-singles g.heads g.first_long c.args.run.now)

pub returns-clause-grew : goal.returns-clause-grew
returns-clause-grew c =
    let s = c.self.inside in
    (singles c.args.run.now, heads-run s.longer s.numbers.items c.extend_from_slice.new.self.items c.args.run.now c.args.self.now.heads c.requires c.in_ok-extend_from_slice.ensures.items (ap (λ v. v.heads) c.self.view_is))
