use Rattle.std.proofs.Common.{◌≡◌, ◌-◌, true, ap, sym, ◌∙◌, subst}
use Rattle.std.specs.List.{list_all}
use Rattle.nfg_lanes.specs.Lanes.{is_narrow_grapheme}
use Rattle.nfg_lanes.proofs.NarrowLemmas.{narrow_block}
use Rattle.nfg_block.specs.Cells.{AreOfLeastWidth}
use Rattle.nfg_block.proofs.block.Block.cells.Goals as goal

pub returns-in-Narrow-clause-fit : goal.returns-in-Narrow-clause-fit
returns-in-Narrow-clause-fit c =
    let least = subst AreOfLeastWidth c.in-Narrow.is c.self.invariant in
    let narrow : list_all is_narrow_grapheme c.deref.result.now ≡ true = ap (list_all is_narrow_grapheme) c.deref.ensures.value ∙ sym least.least in
    narrow_block c.args.from (c.args.until - c.args.from) c.deref.result.now narrow
