use Rattle.std.proofs.Common.{◌-◌, ◌++◌, ◌∙◌, [], length, take, drop, refl, sym, ap, subst, append-nil, append_assoc, arith, zero-le, take_all}
use Rattle.std.proofs.lemmas.List.{take_rest, length-drop}
use Rattle.nfg_segment.specs.Follows.{Follows}
use Rattle.nfg_segment.specs.Given.{with_clusters}
use Rattle.nfg_segment.proofs.Machine.{with_clusters-append}
use Rattle.nfg_segment.proofs.TextLemmas.{IsText-take, IsText-drop, take-part}
use Rattle.nfg_segment.proofs.held.Held.take.Goals as goal

pub loop-at-init : goal.loop-at-init
loop-at-init g c =
    record {
      follows = λ fed given f. (
        [],
        subst (λ l. Follows c.args.self.now.now l (given ++ [])) (sym (append-nil fed)) (subst (Follows c.args.self.now.now fed) (sym (append-nil given)) f),
        refl,
      );
      marked = refl;
      grew = ([], sym (append-nil (g.S.ClusterSink.given c.args.out.now).heads));
      within = zero-le;
    }

pub take_some-requires-clause-text : goal.take_some-requires-clause-text
take_some-requires-clause-text g c =
    IsText-take (length c.args.text.now - c.loop-at.at) (drop c.loop-at.at c.args.text.now) (IsText-drop c.loop-at.at c.args.text.now c.requires)

pub loop-at-smaller : goal.loop-at-smaller
loop-at-smaller g c = let some = c.in_ok-at.ensures.some in omega (arith, some.0, c.loop-at-test.true)

pub loop-at-preserved : goal.loop-at-preserved
loop-at-preserved g c =
    let given_out = g.S.ClusterSink.given in
    let text = c.args.text.now in
    let at = c.loop-at.at in
    let n = c.in_ok-at.field-0 in
    let rest = take_rest text at in
    let some = c.in_ok-at.ensures.some in
    let before = c.loop-at.invariant.grew in
    let after = c.take_some.ensures.grew in
    record {
      follows = λ fed given f.
          let so_far = c.loop-at.invariant.follows fed given f in
          let step = c.in_ok-at.ensures.follows (fed ++ take at text) (given ++ so_far.0) so_far.1 in
          let whole = append_assoc fed (take at text) (take n (drop at text)) ∙ ap (λ l. fed ++ l) (take-part text at n) in (
            so_far.0 ++ step.0,
            subst (λ l. Follows c.take_some.new.self.now l (given ++ (so_far.0 ++ step.0))) whole
                (subst (Follows c.take_some.new.self.now ((fed ++ take at text) ++ take n (drop at text))) (append_assoc given so_far.0 step.0)
                (subst (λ l. Follows c.take_some.new.self.now ((fed ++ take at text) ++ take n l) ((given ++ so_far.0) ++ step.0)) rest step.1)),
            step.2 ∙ ap (λ o. with_clusters o step.0) so_far.2 ∙ sym (with_clusters-append (given_out c.args.out.now) so_far.0 step.0),
          );
      marked = c.take_some.ensures.marked ∙ c.loop-at.invariant.marked;
      grew = (before.0 ++ after.0, after.1 ∙ ap (λ l. l ++ after.0) before.1 ∙ append_assoc (given_out c.args.out.now).heads before.0 after.0);
      within = omega (arith, some.1, ap length rest, length-drop at text, c.loop-at-test.true);
    }

pub returns-clause-follows : goal.returns-clause-follows
returns-clause-follows g c fed given f =
    let all = c.loop-at.invariant.follows fed given f in
    let whole = take_all c.loop-at.at c.args.text.now (omega (arith, c.loop-at-test.false)) in
    (all.0, subst (λ l. Follows c.loop-at.self.now (fed ++ l) (given ++ all.0)) whole all.1, all.2)
