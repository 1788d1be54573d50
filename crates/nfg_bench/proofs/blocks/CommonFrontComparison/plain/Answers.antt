use Rattle.std.proofs.Common.{◌≡◌, ◌%◌, arith, rules, get_or, drop, int_eq, length-drop, pos, false}
use Rattle.std.proofs.lemmas.List.Sums.{common_prefix_len-drop_no, common_prefix_len-le}
use Rattle.nfg_bench.proofs.ElementLemmas.{from_place}
use Rattle.nfg_bench.proofs.blocks.CommonFrontComparison.plain.Goals as goal

pub returns-then-get : goal.returns-then-get
returns-then-get c =
    let a = c.args.self.now.a.now.list in
    let b = c.args.self.now.b.now.list in
    let at = c.loop-at.at in
    let differ : int_eq (get_or a at (pos 0)) (get_or b at (pos 0)) ≡ false = search rules in
    let stop = common_prefix_len-drop_no int_eq a b at (pos 0) (pos 0) (omega arith) (omega arith) differ in
    omega (arith, c.loop-at.invariant, stop, from_place int_eq a b (c.args.run % 32) c.min-start.result (omega arith))

pub returns : goal.returns
returns c =
    let a = c.args.self.now.a.now.list in
    let b = c.args.self.now.b.now.list in
    let at = c.loop-at.at in
    omega (
      arith,
      c.loop-at.invariant,
      common_prefix_len-le int_eq (drop at a) (drop at b),
      length-drop at a,
      length-drop at b,
      from_place int_eq a b (c.args.run % 32) c.min-start.result (omega arith),
    )
