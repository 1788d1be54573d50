-- what two lists have in common is no longer than either
use Rattle.std.proofs.Common.{◌-◌, length, drop, reverse, ap, ◌∙◌, arith, length-drop}
use Rattle.std.proofs.lemmas.List.{length-take, length-reverse}
use Rattle.std.proofs.lemmas.List.Sums.{common_prefix_len-le}
use Rattle.std.specs.Ordering.{int_eq}
use Rattle.nfg_seam.proofs.splicing.kept_of.Goals as goal

pub overflow_sub-middle : goal.overflow_sub-middle
overflow_sub-middle c =
    let within = common_prefix_len-le int_eq c.deref.result.now c.args.middle.now in
    omega (arith, within.1, c.common_front32-front.ensures)

pub returns-clause-inside : goal.returns-clause-inside
returns-clause-inside c =
    let within = common_prefix_len-le int_eq c.deref.result.now c.args.middle.now in
    omega (arith, within.1, c.common_front32-front.ensures, c.min-back.ensures)

pub returns-clause-front_inside : goal.returns-clause-front_inside
returns-clause-front_inside c =
    let a = c.args.a.now.graphemes in
    let within = common_prefix_len-le int_eq c.deref.result.now c.args.middle.now in
    let long = ap length (c.deref.ensures.value ∙ c.in_ok-rest.ensures) ∙ length-take (c.len.result - c.args.left) (drop c.args.left a) in
    let behind = length-drop c.args.left a in
    omega (arith, within.0, c.common_front32-front.ensures, long, behind, c.requires.left)

pub returns-clause-back_inside : goal.returns-clause-back_inside
returns-clause-back_inside c =
    let b = c.args.b.now.graphemes in
    let before = c.deref-2.result.now in
    let within = common_prefix_len-le int_eq (reverse before) (reverse c.args.middle.now) in
    let turned = length-reverse before in
    let long = ap length (c.deref-2.ensures.value ∙ c.in_ok-before.ensures) ∙ length-take (c.args.right - 0) (drop 0 b) in
    omega (arith, within.0, c.common_back32.ensures, c.min-back.ensures, turned, long)
