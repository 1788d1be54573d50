-- what both begin with decides nothing
use Rattle.std.proofs.Common.{◌≡◌, ◌≤◌, ◌+◌, ◌-◌, length, take, ap, subst, ◌∙◌, arith}
use Rattle.std.specs.List.{common_prefix_len}
use Rattle.std.specs.Ordering.{int_eq}
use Rattle.nfg_syn.specs.Represents.{Represents}
use Rattle.nfg_syn.specs.RepresentsLaws.{Represents-take, Represents-clusters}
use Rattle.nfg_ops.proofs.Fronts.{common-front, common-within, order-behind}
use Rattle.nfg_ops.proofs.order.compare.Goals as goal

pub compare_from-requires-clause-inside : goal.compare_from-requires-clause-inside
compare_from-requires-clause-inside g c κs within =
    let left = c.args.a.now.graphemes in
    let right = c.args.b.now.graphemes in
    let count = c.min-count.result in
    let least = c.min-count.ensures in
    let exact : 0 + count - 0 ≡ count = omega arith in
    let inside : count ≤ length left = omega (arith, least, c.len.ensures.len) in
    let common : c.common_front-same.result ≡ common_prefix_len int_eq (take count left) (take count right) =
    c.common_front-same.ensures ∙ ap (λ n. common_prefix_len int_eq (take n left) (take n right)) exact in
    let within_count = common-within left right count c.common_front-same.result inside common in
    omega (arith, within_count, inside)

pub compare_from-requires-clause-other_inside : goal.compare_from-requires-clause-other_inside
compare_from-requires-clause-other_inside g c κs within =
    let left = c.args.a.now.graphemes in
    let right = c.args.b.now.graphemes in
    let count = c.min-count.result in
    let least = c.min-count.ensures in
    let exact : 0 + count - 0 ≡ count = omega arith in
    let inside : count ≤ length left = omega (arith, least, c.len.ensures.len) in
    let common : c.common_front-same.result ≡ common_prefix_len int_eq (take count left) (take count right) =
    c.common_front-same.ensures ∙ ap (λ n. common_prefix_len int_eq (take n left) (take n right)) exact in
    let within_count = common-within left right count c.common_front-same.result inside common in
    omega (arith, within_count, least, c.len-2.ensures.len)

pub returns-clause-order : goal.returns-clause-order
returns-clause-order g c = λ clusters others represents other_represents.
    let left = c.args.a.now.graphemes in
    let right = c.args.b.now.graphemes in
    let count = c.min-count.result in
    let least = c.min-count.ensures in
    let exact : 0 + count - 0 ≡ count = omega arith in
    let inside : count ≤ length left = omega (arith, least, c.len.ensures.len) in
    let common : c.common_front-same.result ≡ common_prefix_len int_eq (take count left) (take count right) =
    c.common_front-same.ensures ∙ ap (λ n. common_prefix_len int_eq (take n left) (take n right)) exact in
    let within_count = common-within left right count c.common_front-same.result inside common in
    let same = c.common_front-same.result in
    let known = (g.T.Synthetics.seen c.args.pass.now).known in
    let numbers = common-front left right count same within_count common in
    let front : take same clusters ≡ take same others =
    Represents-clusters known (take same right) (take same clusters) (take same others)
    (subst (λ ns. Represents known ns (take same clusters)) numbers (Represents-take known same left clusters represents))
    (Represents-take known same right others other_represents) in
    c.compare_from.ensures.order clusters others represents other_represents ∙ order-behind same clusters others front
