use Rattle.std.proofs.Common.{int_eq, length, ap, arith, inl, inr}
use Rattle.std.proofs.lemmas.List.Sums.{common_prefix_len-le}
use Rattle.nfg_bench.proofs.strand.CommonFrontComparison.plain.Goals as goal

pub returns : goal.returns
returns c =
    let so_far = c.loop-x.invariant in
    let shorter = common_prefix_len-le int_eq c.loop-x.x-iterator.a c.loop-x.x-iterator.b in
    elim c.in-None.ensures.steps [
      | inl left ↦ omega (arith, c.len.ensures.len, c.len-2.ensures.len, c.min-len.ensures, so_far.left, so_far.right, so_far.rest, shorter, ap length left.1.0)
      | inr right ↦ omega (arith, c.len.ensures.len, c.len-2.ensures.len, c.min-len.ensures, so_far.left, so_far.right, so_far.rest, shorter, ap length right.1.0)
    ]
