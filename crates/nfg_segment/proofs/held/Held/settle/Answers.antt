use Rattle.std.proofs.Common.{◌≡◌, ◌∙◌, [], ap, sym, subst, append-nil, eqb-true}
use Rattle.nfg_text.specs.Forms.{nfc}
use Rattle.nfg_text.proofs.Proved.{nfc-nil, safe_starts_stay}
use Rattle.nfg_segment.specs.Given.{with_clusters}
use Rattle.nfg_segment.specs.Held.{Keeps, next_all, closed, closed_all}
use Rattle.nfg_segment.proofs.PlainSteps.{no_item}
use Rattle.nfg_segment.proofs.held.Held.settle.Goals as goal

pub returns-in-Some-clause-settled : goal.returns-in-Some-clause-settled
returns-in-Some-clause-settled g c cluster keeps =
    let one = c.in-Some.ensures in
    let form = ap nfc one.tail ∙ safe_starts_stay c.in-Some.c one.safe in
    let pushed = c.in_ok-push.ensures.given cluster (subst (λ h. Keeps h.now.cluster cluster) (sym c.self.view_is) keeps) in (
      subst (Keeps c.push.new.self.now) (ap (next_all cluster) (sym form)) pushed.0,
      c.clear.ensures.current,
      pushed.1 ∙ ap (with_clusters (g.S.ClusterSink.given c.args.out.now)) (sym (append-nil (closed cluster c.in-Some.c)) ∙ ap (closed_all cluster) (sym form)),
    )

pub returns-then-is_empty-clause-settled : goal.returns-then-is_empty-clause-settled
returns-then-is_empty-clause-settled g c cluster keeps =
    let tail = c.args.self.now.now.tail in
    let none : tail ≡ [] =
    sym (ap (λ h. h.now.tail) c.self.view_is) ∙ sym c.as_slice.ensures.codes ∙ no_item _ (eqb-true _ 0 (sym c.is_empty.ensures ∙ c.if-is_empty.true)) in
    let form = sym (ap nfc none ∙ nfc-nil) in (
      subst (Keeps c.args.self.now.now.cluster) (ap (next_all cluster) form) keeps,
      none,
      ap (λ l. with_clusters (g.S.ClusterSink.given c.args.out.now) (closed_all cluster l)) form,
    )
