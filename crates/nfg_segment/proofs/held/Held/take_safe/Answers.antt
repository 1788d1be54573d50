use Rattle.std.proofs.Common.{◌++◌, refl, subst}
use Rattle.nfg_segment.specs.Follows.{Follows}
use Rattle.nfg_segment.proofs.SafeRuns.{take-one}
use Rattle.nfg_segment.proofs.held.Held.take_safe.Goals as goal

pub returns-then-branch-clause-follows : goal.returns-then-branch-clause-follows
returns-then-branch-clause-follows g c fed given f =
    let step = c.in_ok-replace_single.ensures.follows fed given f c.if-branch.true in (
      step.0,
      subst (λ l. Follows c.replace_single.new.self.now (fed ++ l) (given ++ step.0)) (take-one c.args.text.now _ c.requires.some refl) step.1,
      step.2,
    )
