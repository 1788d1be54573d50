use Rattle.std.proofs.Common.{◌≡◌, ◌+◌, ◌∙◌, sym, ap, arith, length, take, drop, int_eq}
use Rattle.std.proofs.lemmas.Bool.{eq-eqb, eqb-true}
use Rattle.std.proofs.lemmas.Simd.{length-chunk}
use Rattle.std.specs.List.{common_prefix_len, slice_range}
use Rattle.nfg_block.proofs.FrontLemmas.{equal_from_front, front_of_itself}
use Rattle.nfg_block.proofs.block.Block.slice_equal.Goals as goal

pub returns : goal.returns
returns c =
    let xs = slice_range c.args.self.now.list c.args.start (c.args.start + c.args.count) in
    let ys = slice_range c.args.other.now.list c.args.other_start (c.args.other_start + c.args.count) in
    let left : length xs ≡ c.args.count = ap (λ n. length (take n (drop c.args.start c.args.self.now.list))) (omega arith) ∙ length-chunk c.args.start c.args.count c.args.self.now.list c.requires.left in
    let right : length ys ≡ c.args.count = ap (λ n. length (take n (drop c.args.other_start c.args.other.now.list))) (omega arith) ∙ length-chunk c.args.other_start c.args.count c.args.other.now.list c.requires.right in (
      λ whole. equal_from_front xs ys (left ∙ sym right) (sym c.common_front.ensures ∙ eqb-true c.common_front.result c.args.count whole ∙ sym left),
      λ equal. eq-eqb c.common_front.result c.args.count (c.common_front.ensures ∙ ap (common_prefix_len int_eq xs) (sym equal) ∙ front_of_itself xs ∙ left),
    )
