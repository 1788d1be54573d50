use Rattle.std.proofs.Common.{refl, sym, ◌∙◌}
use Rattle.std.proofs.lemmas.Bool.{not-true, not-false}
use Rattle.nfg_decode.proofs.Utf16Tails.{unit_whole, cut_pair}
use Rattle.nfg_decode.proofs.utf16.step_two.Goals as goal

pub returns-then-is_lone : goal.returns-then-is_lone
returns-then-is_lone c =
    let unit = c.unit_of-unit in
    unit_whole c.args.order c.args.x c.args.y unit.result unit.ensures (not-true _ (sym c.is_lone.ensures ∙ c.if-is_lone.true))

pub returns : goal.returns
returns c =
    let unit = c.unit_of-unit in
    (refl, cut_pair c.args.order c.args.x c.args.y unit.result unit.ensures (not-false _ (sym c.is_lone.ensures ∙ c.if-is_lone.false)) (sym c.is_low.ensures ∙ c.if-is_low.false))
