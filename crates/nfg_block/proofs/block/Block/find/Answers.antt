use Rattle.std.proofs.Common.{◌≡◌, ◌-◌, ◌+◌, ◌≤◌, ◌∙◌, sym, ap, arith, true, length, take, drop, w32, int_eq, subst}
use Rattle.std.proofs.lemmas.Int.{to_z-of_z}
use Rattle.std.proofs.lemmas.Simd.{length-chunk}
use Rattle.std.specs.List.{list_all, position_from, position_or_len}
use Rattle.nfg_lanes.specs.Lanes.{is_narrow_grapheme}
use Rattle.nfg_lanes.proofs.NarrowLemmas.{narrow_block}
use Rattle.nfg_block.specs.Cells.{AreOfLeastWidth, graphemes_of}
use Rattle.nfg_block.proofs.FindLemmas.{found_from}
use Rattle.nfg_block.proofs.block.Block.find.Goals as goal

pub find_narrow-requires : goal.find_narrow-requires
find_narrow-requires c =
    let least = subst AreOfLeastWidth c.in-Narrow.is c.self.invariant in
    let narrow : list_all is_narrow_grapheme c.deref.result.now ≡ true = ap (list_all is_narrow_grapheme) c.deref.ensures.value ∙ sym least.least in
    narrow_block c.args.from (c.args.until - c.args.from) c.deref.result.now narrow

pub returns-in-Narrow : goal.returns-in-Narrow
returns-in-Narrow c =
    let i = c.args.from in
    let count = c.args.until - i in
    let cells = c.deref.result.now in
    let list : cells ≡ c.args.self.now.list = c.deref.ensures.value ∙ ap (λ v. (graphemes_of v).list) (sym c.in-Narrow.is) ∙ ap (λ g. g.list) c.self.view_is in
    let room : i + count ≤ length cells = omega (arith, c.requires.ordered, c.requires.in_range, ap length list) in
    let at = c.find_narrow.ensures ∙ ap (λ x. position_or_len (λ y. int_eq y x) (take count (drop i cells))) (to_z-of_z w32 c.args.x c.ranges.x) in
    found_from (λ y. int_eq y c.args.x) (take count (drop i cells)) i count c.find_narrow.result c.index_from.result (length-chunk i count cells room) at c.index_from.ensures
    ∙ ap (λ zs. position_from (λ y. int_eq y c.args.x) i (take count (drop i zs))) list

pub returns-in-Wide : goal.returns-in-Wide
returns-in-Wide c =
    let i = c.args.from in
    let count = c.args.until - i in
    let cells = c.deref-in-Wide.result.now in
    let list : cells ≡ c.args.self.now.list =
    c.deref-in-Wide.ensures.value ∙ ap (λ v. (graphemes_of v).list) (sym c.in-Wide.is) ∙ ap (λ g. g.list) c.self.view_is
    in
    let room : i + count ≤ length cells = omega (arith, c.requires.ordered, c.requires.in_range, ap length list) in
    let at = c.first_equal32.ensures ∙ ap (λ x. position_or_len (λ y. int_eq y x) (take count (drop i cells))) (to_z-of_z w32 c.args.x c.ranges.x) in
    found_from (λ y. int_eq y c.args.x) (take count (drop i cells)) i count c.first_equal32.result c.index_from-in-Wide.result (length-chunk i count cells room) at
    c.index_from-in-Wide.ensures
    ∙ ap (λ zs. position_from (λ y. int_eq y c.args.x) i (take count (drop i zs))) list
