use Rattle.std.proofs.Common.{◌+◌, ◌<◌, ◌++◌, ◌∙◌, refl, subst, take, length, sym, ap, append_assoc, get_or, arith}
use Rattle.nfg_segment.specs.Held.{next_all}
use Rattle.nfg_segment.proofs.Machine.{next_all-more, closed_all-more}
use Rattle.nfg_segment.proofs.Passing.{has_passed, is_near}
use Rattle.nfg_segment.proofs.Reaching.{slice_text, reaches-same}
use Rattle.nfg_segment.proofs.TextLemmas.{scalar-at}
use Rattle.nfg_segment.proofs.open_reach.pass_open.Goals as goal

pub kind_of-requires : goal.kind_of-requires
kind_of-requires g c = scalar-at c.args.text.now c.loop-at.at 0 c.requires.text c.loop-at-test.true

pub join_all-requires : goal.join_all-requires
join_all-requires g c = slice_text c.args.text.now c.loop-at.reach.start (length c.args.text.now) c.requires.text

pub loop-at-preserved : goal.loop-at-preserved
loop-at-preserved g c =
    let given = g.S.ClusterSink.given in
    let codes = c.args.text.now in
    let at = c.loop-at.at in
    let x = get_or codes at 0 in
    let within = c.loop-at-test.true in
    let before = c.loop-at.invariant.grew in
    let after = c.go_on.ensures.grew in
    let new = c.in_ok-reach.reach in
    record {
      given = λ cluster keeps.
          let so_far = c.loop-at.invariant.given cluster keeps in
          let step = c.in_ok-reach.ensures.given (next_all cluster (take at codes)) so_far.0 in (
            reaches-same c.go_on.new.open_cluster.now codes (at + 1) new _ _ (next_all-more cluster codes at x 0 within refl) step.0,
            closed_all-more (given c.args.out.now) (given c.loop-at.out) (given c.go_on.new.out) cluster codes at x 0 within refl so_far.1 step.1,
          );
      start = omega (arith, c.in_ok-reach.ensures.start);
      below = omega (arith, c.in_ok-reach.ensures.start, within);
      near = λ far.
          subst (λ h. 0 < length h.head) (sym (c.in_ok-reach.ensures.same (omega (arith, far)))) (c.is_some.ensures.head c.if-not-is_some.false);
      marked = c.go_on.ensures.marked ∙ c.loop-at.invariant.marked;
      grew = (before.0 ++ after.0, after.1 ∙ ap (λ l. l ++ after.0) before.1 ∙ append_assoc (given c.args.out.now).heads before.0 after.0);
    }

pub returns-then-not-is_some-clause-part : goal.returns-then-not-is_some-clause-part
returns-then-not-is_some-clause-part g c cluster keeps some =
    let given = g.S.ClusterSink.given in
    let so_far = c.loop-at.invariant.given cluster keeps in
    let none = c.is_some.ensures.none c.if-not-is_some.true in
    has_passed c.loop-at.open_cluster.now c.args.text.now c.loop-at.at c.loop-at.reach cluster (given c.args.out.now) (given c.loop-at.out) so_far.0 so_far.1
    c.loop-at.invariant.start (is_near c.loop-at.reach.start c.loop-at.at _ c.loop-at.invariant.near none) (omega (arith, c.loop-at-test.true)) none

pub returns-then-not-is_some-2-clause-part : goal.returns-then-not-is_some-2-clause-part
returns-then-not-is_some-2-clause-part g c cluster keeps some =
    let given = g.S.ClusterSink.given in
    let so_far = c.loop-at.invariant.given cluster keeps in
    let none = c.is_some-2.ensures.none c.if-not-is_some-2.true in
    has_passed c.loop-at.open_cluster.now c.args.text.now c.loop-at.at c.loop-at.reach cluster (given c.args.out.now) (given c.loop-at.out) so_far.0 so_far.1
    c.loop-at.invariant.start (is_near c.loop-at.reach.start c.loop-at.at _ c.loop-at.invariant.near none) (omega (arith, c.loop-at.auto)) none
