use Rattle.std.proofs.Common.{not, ap, ◌∙◌, get_or}
use Rattle.nfg_text.proofs.Scalars.{scalar_at, scalars-push, scalar_from_some, not_scalar_from_none}
use Rattle.nfg_text.proofs.normal.is_text.Goals as goal

pub returns-then-is_none : goal.returns-then-is_none
returns-then-is_none c =
    let here = get_or c.args.t.now c.loop-c.c-index 0 in (
      λ h. cc,
      λ text. absurd (not_scalar_from_none c.from_u32.result here c.from_u32.ensures.value c.if-is_none.ensures (scalar_at c.args.t.now c.loop-c.c-index 0 text c.loop-c-test.true)),
    )

pub loop-c-preserved : goal.loop-c-preserved
loop-c-preserved c =
    let here = get_or c.args.t.now c.loop-c.c-index 0 in
    scalars-push c.args.t.now c.loop-c.c-index c.loop-c-test.true c.loop-c.invariant
    (scalar_from_some c.from_u32.result here c.from_u32.ensures.value (c.is_none.ensures ∙ ap not c.if-is_none.false))
