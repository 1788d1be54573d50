use Rattle.std.proofs.Common.{◌++◌, ◌∙◌, subst, take, ap, append_assoc}
use Rattle.nfg_segment.specs.Held.{Keeps, next_all}
use Rattle.nfg_segment.proofs.Machine.{next_all-more, closed_all-more}
use Rattle.nfg_segment.proofs.composer.push_all.Goals as goal

pub loop-c-preserved : goal.loop-c-preserved
loop-c-preserved g c =
    let given = g.S.ClusterSink.given in
    let codes = c.args.chars.now in
    let i = c.loop-c.c-index in
    let before = c.loop-c.invariant.grew in
    let after = c.push.ensures.grew in
    record {
      given = λ cluster keeps.
          let so_far = c.loop-c.invariant.given cluster keeps in
          let step = c.in_ok-push.ensures.given (next_all cluster (take i codes)) so_far.0 in
          let here = c.to_code.ensures.code ∙ c.c-item.is in (
            subst (Keeps c.push.new.self.now) (next_all-more cluster codes i c.to_code.result _ c.loop-c-test.true here) step.0,
            closed_all-more (given c.args.out.now) (given c.loop-c.out) (given c.push.new.out) cluster codes i c.to_code.result _ c.loop-c-test.true here so_far.1 step.1,
          );
      marked = c.push.ensures.marked ∙ c.loop-c.invariant.marked;
      grew = (before.0 ++ after.0, after.1 ∙ ap (λ l. l ++ after.0) before.1 ∙ append_assoc (given c.args.out.now).heads before.0 after.0);
    }
