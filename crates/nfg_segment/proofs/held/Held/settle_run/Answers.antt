use Rattle.std.proofs.Common.{◌∙◌, sym, ap, subst, take}
use Rattle.nfg_text.specs.Forms.{nfc}
use Rattle.nfg_segment.specs.Held.{Keeps, next_all}
use Rattle.nfg_segment.proofs.SafeRuns.{keeps-two, given-two}
use Rattle.nfg_segment.proofs.SettledRuns.{nfc-run}
use Rattle.nfg_segment.proofs.TextLemmas.{IsText-take}
use Rattle.nfg_segment.proofs.held.Held.settle_run.Goals as goal

pub push_settled-requires-clause-text : goal.push_settled-requires-clause-text
push_settled-requires-clause-text g c = IsText-take c.args.n c.args.text.now c.requires.text

pub returns-clause-settled : goal.returns-clause-settled
returns-clause-settled g c cluster keeps =
    let given = g.S.ClusterSink.given in
    let n = c.args.n in
    let text = c.args.text.now in
    let tail = c.args.self.now.now.tail in
    let run = take n text in
    let stays = nfc-run tail text n c.requires.within c.requires.first c.requires.settled in
    let settled = c.in_ok-settle.ensures.settled cluster keeps in
    let done = next_all cluster (nfc tail) in
    let pushed = c.in_ok-push_settled.ensures.given done (subst (λ h. Keeps h.now.cluster done) (sym c.self.view_is) settled.0) in (
      keeps-two c.push_settled.new.open_cluster.now cluster tail run stays pushed.0,
      ap (λ h. h.now.tail) c.self.view_is ∙ settled.1,
      given-two (given c.args.out.now) (given c.settle.new.out) (given c.push_settled.new.out) cluster tail run stays settled.2 pushed.1,
    )
