-- what is compared is the front of what is left of each
use Rattle.std.proofs.Common.{◌≡◌, ◌+◌, ◌-◌, take, drop, length, ap, ap₂, sym, ◌∙◌, arith, length-drop, length-take-le, add_assoc}
use Rattle.std.proofs.lemmas.List.Sums.{common_prefix_len-le}
use Rattle.std.proofs.lemmas.List.{drop-drop}
use Rattle.std.specs.List.{common_prefix_len}
use Rattle.std.specs.Ordering.{int_eq}
use Rattle.nfg_strand.specs.Strand.{graphemes}
use Rattle.nfg_strand.proofs.Commons.{common_prefix_len-take, common_prefix_len-take_apart}
use Rattle.nfg_strand.proofs.search.common_front.Goals as goal

pub returns-then-common-seen : goal.returns-then-common-seen
returns-then-common-seen c =
    let seen = c.common_here-seen.result.0 in
    let said = c.common_here-seen.ensures.common in
    let len = ap length c.loop-same.invariant.left in
    let other_len = ap length c.loop-same.invariant.other_left in
    let left = length-drop (c.args.start + c.loop-same.same) (graphemes c.args.strands.now) in
    let other_left = length-drop (c.args.other_start + c.loop-same.same) (graphemes c.args.others.now) in
    sym (c.loop-same.invariant.passed
    ∙ ap (λ n. c.loop-same.same + n) (common_prefix_len-take_apart int_eq c.loop-same.rest c.loop-same.other seen (c.args.count - c.loop-same.same) c.common_here-seen.ensures.limited (omega arith) (omega arith) (omega arith) ∙ sym said))

pub loop-same-preserved : goal.loop-same-preserved
loop-same-preserved c =
    let seen = c.common_here-seen.result.0 in
    let said = c.common_here-seen.ensures.common in
    let len = ap length c.loop-same.invariant.left in
    let other_len = ap length c.loop-same.invariant.other_left in
    let left = length-drop (c.args.start + c.loop-same.same) (graphemes c.args.strands.now) in
    let other_left = length-drop (c.args.other_start + c.loop-same.same) (graphemes c.args.others.now) in
    let all : common_prefix_len int_eq (take seen c.loop-same.rest) (take seen c.loop-same.other) ≡ seen =
    let most = common_prefix_len-le int_eq (take seen c.loop-same.rest) (take seen c.loop-same.other) in
    let front = length-take-le seen c.loop-same.rest (omega arith) in
    let different = c.if-common-seen.false in
    omega arith in
    let fewer : c.args.count - c.loop-same.same - seen ≡ c.args.count - (c.loop-same.same + seen) = omega arith in
    record {
      high = omega arith;
      left = c.advance.ensures ∙ ap (drop seen) c.loop-same.invariant.left ∙ drop-drop seen (c.args.start + c.loop-same.same) (graphemes c.args.strands.now)
          ∙ ap (λ n. drop n (graphemes c.args.strands.now)) (add_assoc c.args.start c.loop-same.same seen);
      other_left = c.advance-in-loop-same.ensures ∙ ap (drop seen) c.loop-same.invariant.other_left ∙ drop-drop seen (c.args.other_start + c.loop-same.same) (graphemes c.args.others.now)
          ∙ ap (λ n. drop n (graphemes c.args.others.now)) (add_assoc c.args.other_start c.loop-same.same seen);
      passed = c.loop-same.invariant.passed
          ∙ ap (λ n. c.loop-same.same + n) (common_prefix_len-take int_eq c.loop-same.rest c.loop-same.other seen (c.args.count - c.loop-same.same) c.common_here-seen.ensures.limited (omega arith) (omega arith) all)
          ∙ sym (add_assoc c.loop-same.same seen (common_prefix_len int_eq (take (c.args.count - c.loop-same.same - seen) (drop seen c.loop-same.rest)) (take (c.args.count - c.loop-same.same - seen) (drop seen c.loop-same.other))))
          ∙ ap (λ n. c.loop-same.same + seen + common_prefix_len int_eq (take n (drop seen c.loop-same.rest)) (take n (drop seen c.loop-same.other))) fewer
          ∙ ap₂ (λ xs ys. c.loop-same.same + seen + common_prefix_len int_eq (take (c.args.count - (c.loop-same.same + seen)) xs) (take (c.args.count - (c.loop-same.same + seen)) ys)) (sym c.advance.ensures) (sym c.advance-in-loop-same.ensures);
    }
