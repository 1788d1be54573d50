use Rattle.std.proofs.Common.{◌∙◌, ◌∷◌, ◌++◌, [], take, slice_index_or, refl, ap, sym, subst}
use Rattle.nfg_text.specs.Forms.{nfc}
use Rattle.nfg_segment.specs.Follows.{Follows}
use Rattle.nfg_segment.specs.Given.{with_clusters}
use Rattle.nfg_segment.specs.Held.{Keeps, next, next_all, closed, closed_all, as_list}
use Rattle.nfg_segment.proofs.Machine.{with_clusters-append}
use Rattle.nfg_segment.proofs.SafeRuns.{begun-parts}
use Rattle.nfg_segment.proofs.Steps.{held, tracks-hold, follows-begun, follows-line}
use Rattle.nfg_segment.proofs.TextLemmas.{scalar-at}
use Rattle.nfg_segment.proofs.held.Held.take_run.Goals as goal

pub push-requires : goal.push-requires
push-requires g c = scalar-at c.args.text.now c.args.n 0 c.requires.text c.requires.within

pub kind_of-requires : goal.kind_of-requires
kind_of-requires g c = scalar-at c.args.text.now c.args.n 0 c.requires.text c.requires.within

pub push-requires-2 : goal.push-requires-2
push-requires-2 g c = scalar-at c.args.text.now c.args.n 0 c.requires.text c.requires.within

pub returns-then-c-eq10-clause-follows : goal.returns-then-c-eq10-clause-follows
unfolding tracks-hold
returns-then-c-eq10-clause-follows g c fed given t =
    let out = g.S.ClusterSink.given c.args.out.now in
    let text = c.args.text.now in
    let at = c.args.n in
    let code = slice_index_or text at 0 in
    let h = c.args.self.now.now in
    let tail = h.tail ++ take at text in
    let on = tracks-hold h tail fed (take at text) given t refl in
    let first = closed_all t.cluster (nfc tail) in
    let done = next_all t.cluster (nfc tail) in
    let settled = c.in_ok-settle_run.ensures.settled t.cluster t.keeps in
    let pushed = c.in_ok-push.ensures.given done (subst (λ v. Keeps v.now.cluster done) (sym c.self.view_is) settled.0) in
    let ended = c.in_ok-close.ensures.given (next done code) pushed.0 in
    let whole = begun-parts fed text at code c.requires.within refl in (
      first ++ (closed done code ++ as_list (next done code)),
      subst (λ l. Follows (held c.close.new.self.now c.self.inside.tail.current) l (given ++ (first ++ (closed done code ++ as_list (next done code))))) whole
          (follows-line (held h.cluster tail) c.close.new.self.now c.self.inside.tail.current (fed ++ take at text) given code on c.if-c-eq10.true (ap (λ v. v.now.tail) c.self.view_is ∙ settled.1) ended.0),
      ended.1 ∙ ap (λ o. with_clusters o (as_list (next done code))) (pushed.1 ∙ ap (λ o. with_clusters o (closed done code)) settled.2)
          ∙ sym (with_clusters-append out first (closed done code ++ as_list (next done code)) ∙ with_clusters-append (with_clusters out first) (closed done code) (as_list (next done code))),
    )

pub returns-clause-follows : goal.returns-clause-follows
unfolding tracks-hold
returns-clause-follows g c fed given t =
    let out = g.S.ClusterSink.given c.args.out.now in
    let text = c.args.text.now in
    let at = c.args.n in
    let code = slice_index_or text at 0 in
    let h = c.args.self.now.now in
    let tail = h.tail ++ take at text in
    let on = tracks-hold h tail fed (take at text) given t refl in
    let first = closed_all t.cluster (nfc tail) in
    let done = next_all t.cluster (nfc tail) in
    let settled = c.in_ok-settle_run.ensures.settled t.cluster t.keeps in
    let before = c.in_ok-close_before.ensures.given done (subst (λ v. Keeps v.now.cluster done) (sym c.self.view_is) settled.0) in
    let whole = begun-parts fed text at code c.requires.within refl in (
      first ++ closed done code,
      subst (λ l. Follows (held c.close_before.new.self.now c.push-2.new.self.current) l (given ++ (first ++ closed done code))) whole
          (follows-begun (held h.cluster tail) c.close_before.new.self.now c.push-2.new.self.current (fed ++ take at text) given code on c.requires.safe c.if-c-eq10.false
          (c.in_ok-push-2.ensures.current ∙ ap (λ l. l ++ code ∷ []) (ap (λ v. v.now.tail) c.self.view_is ∙ settled.1)) before.0),
      before.1 ∙ ap (λ o. with_clusters o (closed done code)) settled.2 ∙ sym (with_clusters-append out first (closed done code)),
    )
