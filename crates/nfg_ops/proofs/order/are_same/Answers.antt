-- the ranges that are compared are both strings
use Rattle.std.proofs.Common.{◌≡◌, ◌+◌, ◌-◌, ◌==◌, take, length, sym, ap₂, ◌∙◌, arith}
use Rattle.std.specs.List.{common_prefix_len}
use Rattle.std.specs.Cmp.Lexicographic.{unequal}
use Rattle.std.specs.Ordering.{int_eq}
use Rattle.std.proofs.lemmas.Bool.{ne_eqb}
use Rattle.std.proofs.Math.Seq.{take-length}
use Rattle.nfg_ops.proofs.Standing.{common-whole}
use Rattle.nfg_ops.proofs.order.are_same.Goals as goal

pub returns-then-len : goal.returns-then-len
returns-then-len c =
    let left = c.args.a.now.graphemes in
    let right = c.args.b.now.graphemes in
    let len = c.len-len.ensures.len in
    let other_len = c.len.ensures.len in
    let long : length left ≡ length right = omega (arith, len, other_len, c.if-len.true) in
    let count : 0 + c.len-len.result - 0 ≡ length left = omega (arith, len) in
    let other_count : 0 + c.len-len.result - 0 ≡ length right = omega (arith, len, long) in
    let common : c.common_front.result ≡ common_prefix_len int_eq left right =
    c.common_front.ensures
    ∙ ap₂ (λ n m. common_prefix_len int_eq (take n left) (take m right)) count other_count
    ∙ ap₂ (common_prefix_len int_eq) (take-length left) (take-length right) in
    ap₂ ◌==◌ common (len ∙ long) ∙ common-whole int_eq left right long

pub returns-else-len : goal.returns-else-len
returns-else-len c =
    let len = c.len-len.ensures.len in
    let other_len = c.len.ensures.len in
    ne_eqb c.len-len.result c.len.result c.if-len.false
    ∙ sym (unequal int_eq c.args.a.now.graphemes c.args.b.now.graphemes (λ e. c.if-len.false (len ∙ e ∙ sym other_len)))
