use Rattle.std.proofs.Common.{◌∙◌, ◌++◌, ap, sym, subst}
use Rattle.nfg_text.specs.Forms.{nfc}
use Rattle.nfg_segment.specs.Given.{with_clusters}
use Rattle.nfg_segment.specs.Held.{Keeps, next_all, closed_all, as_list}
use Rattle.nfg_segment.proofs.Machine.{with_clusters-append}
use Rattle.nfg_segment.proofs.Steps.{follows-new, tracks-ended}
use Rattle.nfg_segment.proofs.held.Held.end.Goals as goal

pub returns-clause-ended : goal.returns-clause-ended
returns-clause-ended g c fed given t =
    let out = g.S.ClusterSink.given c.args.out.now in
    let tail = c.args.self.now.now.tail in
    let first = closed_all t.cluster (nfc tail) in
    let done = next_all t.cluster (nfc tail) in
    let settled = c.in_ok-settle.ensures.settled t.cluster t.keeps in
    let ended = c.in_ok-close.ensures.given done (subst (λ h. Keeps h.now.cluster done) (sym c.self.view_is) settled.0) in (
      first ++ as_list done,
      tracks-ended c.args.self.now.now fed given t,
      follows-new c.close.new.self.now c.self.inside.tail.current ended.0 (ap (λ h. h.now.tail) c.self.view_is ∙ settled.1),
      ended.1 ∙ ap (λ o. with_clusters o (as_list done)) settled.2 ∙ sym (with_clusters-append out first (as_list done)),
    )
