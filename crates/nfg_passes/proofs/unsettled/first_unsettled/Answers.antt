use Rattle.std.proofs.Common.{◌+◌, ◌*◌, ◌≤◌, length, sym, ◌∙◌, arith}
use Rattle.nfg_passes.specs.Unsettled.{unsettled_marks}
use Rattle.nfg_passes.proofs.BlockRuns.{clear_block, clear_next, first_in_block, first_mark_is}
use Rattle.nfg_passes.proofs.LaneFacts.{length-unsettled_marks, unsettled_mark}
use Rattle.nfg_passes.proofs.unsettled.first_unsettled.Goals as goal

pub returns-then-unsettled-ne0 : goal.returns-then-unsettled-ne0
returns-then-unsettled-ne0 c =
    let ids = c.args.ids.now in
    let at = c.loop-block.block * 32 + 1 in
    let room : at + 32 ≤ length (unsettled_marks ids) = omega (arith, length-unsettled_marks ids) in
    first_in_block (unsettled_marks ids) at 32 c.unsettled_in-unsettled.result c.loop-block.invariant room (omega arith) c.unsettled_in-unsettled.ensures c.if-unsettled-ne0.true

pub loop-block-preserved : goal.loop-block-preserved
loop-block-preserved c =
    let ids = c.args.ids.now in
    let at = c.loop-block.block * 32 + 1 in
    let room : at + 32 ≤ length (unsettled_marks ids) = omega (arith, length-unsettled_marks ids) in
    clear_block (unsettled_marks ids) at 32 c.unsettled_in-unsettled.result _ c.loop-block.invariant room c.unsettled_in-unsettled.ensures c.if-unsettled-ne0.false (omega arith)

pub overflow_sub-at : goal.overflow_sub-at
overflow_sub-at c = omega (arith, c.loop-at.invariant.some)

pub loop-at-preserved : goal.loop-at-preserved
loop-at-preserved c =
    let at = c.loop-at.at in
    let ids = c.args.ids.now in
    let mark = unsettled_mark ids at c.loop-at.invariant.some c.loop-at-test.true in
    clear_next (unsettled_marks ids) at c.loop-at.invariant (omega (arith, c.loop-at-test.true, length-unsettled_marks ids)) (mark ∙ sym c.is_unsettled.ensures ∙ c.if-not-is_unsettled.true)

pub returns-else-not-is_unsettled : goal.returns-else-not-is_unsettled
returns-else-not-is_unsettled c =
    let at = c.loop-at.at in
    let ids = c.args.ids.now in
    let mark = unsettled_mark ids at c.loop-at.invariant.some c.loop-at-test.true in
    first_mark_is (unsettled_marks ids) at c.loop-at.invariant (λ inside. mark ∙ sym c.is_unsettled.ensures ∙ c.if-not-is_unsettled.false)

pub returns-after-loop-at : goal.returns-after-loop-at
returns-after-loop-at c =
    let ids = c.args.ids.now in
    first_mark_is (unsettled_marks ids) c.loop-at.at c.loop-at.invariant (λ inside. absurd (omega (arith, inside, c.loop-at-test.false, length-unsettled_marks ids)))
