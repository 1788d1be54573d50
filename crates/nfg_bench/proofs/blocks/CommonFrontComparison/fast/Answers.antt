use Rattle.std.proofs.Common.{int_eq, arith, ◌%◌, ◌-◌, ◌∙◌}
use Rattle.nfg_bench.proofs.ElementLemmas.{from_place, ranges_in_common}
use Rattle.nfg_bench.proofs.blocks.CommonFrontComparison.fast.Goals as goal

pub returns : goal.returns
returns c =
    let a = c.args.self.now.a.now.list in
    let b = c.args.self.now.b.now.list in
    let start = c.min-start.result in
    c.common_front.ensures ∙ ranges_in_common int_eq a b start (c.min-len.result - start) (omega (arith, c.len.ensures, c.len-2.ensures, c.min-len.ensures))
    ∙ from_place int_eq a b (c.args.run % 32) start (omega (arith, c.len.ensures, c.len-2.ensures, c.min-len.ensures, c.min-start.ensures))
