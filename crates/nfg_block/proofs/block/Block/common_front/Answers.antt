use Rattle.std.proofs.Common.{◌≡◌, ◌-◌, ◌+◌, ◌∙◌, ap, ap₂, sym, length, take, drop, int_eq}
use Rattle.std.specs.List.{common_prefix_len, slice_range}
use Rattle.nfg_block.specs.Cells.{graphemes_of}
use Rattle.nfg_block.proofs.FrontLemmas.{common_prefix_len-swapped, rest_part}
use Rattle.nfg_block.proofs.block.Block.common_front.Goals as goal

pub returns-in-Narrow-cells-2 : goal.returns-in-Narrow-cells-2
returns-in-Narrow-cells-2 c =
    let a = c.deref-in-Wide.result.now in
    let b = c.deref-in-Narrow-cells-2.result.now in
    let count = c.args.count in
    let left : a ≡ c.args.self.now.list = c.deref-in-Wide.ensures.value ∙ ap (λ v. (graphemes_of v).list) (sym c.in-Wide.is) ∙ ap (λ g. g.list) c.self.view_is in
    let right : b ≡ c.args.other.now.list =
    c.deref-in-Narrow-cells-2.ensures.value ∙ ap (λ v. (graphemes_of v).list) (sym c.in-Narrow-cells-2.is) ∙ ap (λ g. g.list) c.other.view_is
    in
    let xs = take count (take (length a - c.args.start) (drop c.args.start a)) in
    let ys = take count (take (length b - c.args.other_start) (drop c.args.other_start b)) in
    c.common_front_mixed-in-Narrow-cells-2.ensures ∙ common_prefix_len-swapped ys xs
    ∙ ap₂ (common_prefix_len int_eq) (rest_part a c.args.start count) (rest_part b c.args.other_start count)
    ∙ ap₂ (λ xs ys. common_prefix_len int_eq (slice_range xs c.args.start (c.args.start + count)) (slice_range ys c.args.other_start (c.args.other_start + count))) left right
