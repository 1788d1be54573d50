use Rattle.std.proofs.Common.{◌≡◌, ◌∙◌, length, ap, ap₂, sym, arith}
use Rattle.std.proofs.lemmas.Bool.Decides.{nat_tests, Decides-eqb}
use Rattle.std.specs.List.{common_prefix_len}
use Rattle.std.specs.Ordering.{int_eq}
use Rattle.nfg_seam.proofs.RepeatSame.{all_common, common_all, whole_range}
use Rattle.nfg_seam.proofs.repeated_string.is_same.Goals as goal

pub returns : goal.returns
returns c =
    let xs = c.args.a.now.graphemes in
    let ys = c.args.b.now.graphemes in
    let n = c.len-3.result in
    let same : length xs ≡ length ys = grind (arith, nat_tests, c.if-len.false, c.len.ensures.len, c.len-2.ensures.len) in
    let common = c.common_front.ensures
    ∙ ap₂ (common_prefix_len int_eq) (whole_range xs n c.len-3.ensures.len) (whole_range ys n (c.len-3.ensures.len ∙ same)) in (
      λ all. all_common xs ys same (sym common ∙ (Decides-eqb _ _).0 (grind (arith, nat_tests, all)) ∙ c.len-4.ensures.len),
      λ is. grind (nat_tests, arith, common, c.len-4.ensures.len, ap (common_prefix_len int_eq xs) is, common_all xs),
    )
