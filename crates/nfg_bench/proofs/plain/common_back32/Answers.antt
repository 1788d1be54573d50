use Rattle.std.proofs.Common.{◌≡◌, ◌-◌, arith, rules, length, get_or, reverse, int_eq, pos, true, false}
use Rattle.std.proofs.lemmas.List.{length-reverse}
use Rattle.nfg_bench.proofs.ElementLemmas.{all_in_common, back_step, back_stop}
use Rattle.nfg_bench.proofs.plain.common_back32.Goals as goal

pub loop-count-preserved : goal.loop-count-preserved
loop-count-preserved c =
    let a = c.args.a.now in
    let b = c.args.b.now in
    let n = c.loop-count.count in
    let equal : int_eq (get_or a (length a - 1 - n) (pos 0)) (get_or b (length b - 1 - n) (pos 0)) ≡ true = search rules in
    omega (arith, c.loop-count.invariant, back_step int_eq a b n (pos 0) (pos 0) (omega arith) (omega arith) equal)

pub returns-then-a-count : goal.returns-then-a-count
returns-then-a-count c =
    let a = c.args.a.now in
    let b = c.args.b.now in
    let n = c.loop-count.count in
    let differ : int_eq (get_or a (length a - 1 - n) (pos 0)) (get_or b (length b - 1 - n) (pos 0)) ≡ false = search rules in
    omega (arith, c.loop-count.invariant, back_stop int_eq a b n (pos 0) (pos 0) (omega arith) (omega arith) differ)

pub returns : goal.returns
returns c =
    let a = c.args.a.now in
    let b = c.args.b.now in
    all_in_common int_eq (reverse a) (reverse b) c.loop-count.count c.min-len.result c.loop-count.invariant
    (omega (arith, c.min-len.ensures, length-reverse a, length-reverse b)) (omega (arith, c.loop-count-test.false))
