use Rattle.std.proofs.Common.{◌≡◌, ◌+◌, ◌-◌, take, drop, refl, ap, arith}
use Rattle.nfg_segment.proofs.PlainLines.{lines-block}
use Rattle.nfg_segment.proofs.plain.past_blocks.Goals as goal

pub loop-at-preserved : goal.loop-at-preserved
loop-at-preserved c =
    let at = c.loop-at.at in
    let text = c.args.text.now in
    let size : at + 16 - at ≡ 16 = omega arith in
    record {
      from = omega (arith, c.loop-at.invariant.from);
      within = omega (arith, c.loop-at-test.true);
      plain = lines-block text _ at 16 c.loop-at.invariant.plain (c.if-are_lines_of.ensures refl) (ap (λ k. take k (drop at text)) size);
    }
