-- each strand that is passed over is skipped whole
use Rattle.std.proofs.Common.{◌∙◌, arith}
use Rattle.nfg_strand.proofs.Places.{length-graphemes-past, drop-graphemes-next}
use Rattle.nfg_strand.proofs.place.Place.from.Goals as goal

pub loop-first-preserved : goal.loop-first-preserved
loop-first-preserved c =
    let s = c.index-strands-first.result in
    let is = c.index-strands-first.is in
    let covers = c.span-span.ensures.len in
    let len = length-graphemes-past c.args.strands.now c.loop-first.first s c.loop-first.left c.span-span.result c.loop-first-test.true is covers in
    record {
      inside = omega (arith, c.loop-first.invariant.inside);
      rest = drop-graphemes-next c.args.strands.now c.loop-first.first s c.loop-first.left c.span-span.result c.loop-first-test.true is covers c.if-left-span.false
          ∙ c.loop-first.invariant.rest;
    }
