use Rattle.std.proofs.Common.{refl, sym, ◌∙◌, arith}
use Rattle.std.proofs.lemmas.Bool.{not-false}
use Rattle.nfg_decode.proofs.Utf16Tails.{cut_unit}
use Rattle.nfg_decode.proofs.utf16.step_three.Goals as goal

pub returns : goal.returns
returns c =
    let unit = c.unit_of-unit in
    let surrogate = not-false _ (sym c.is_lone.ensures ∙ c.if-is_lone.false) in (
      refl,
      cut_unit c.args.order c.args.x c.args.y unit.result unit.ensures c.args.z (omega arith) surrogate (sym c.is_low.ensures ∙ c.if-is_low.false)
          (sym c.can_be_low.ensures ∙ c.if-not-can_be_low.false),
    )
