use Rattle.std.proofs.Common.{sym, ◌∙◌}
use Rattle.nfg_decode.proofs.Utf16Tails.{pair_whole}
use Rattle.nfg_decode.proofs.utf16.step_four.Goals as goal

pub returns-then-is_pair : goal.returns-then-is_pair
returns-then-is_pair c =
    let high = c.unit_of-high in
    let low = c.unit_of-low in
    let args = c.args in
    pair_whole args.order args.x args.y high.result high.ensures args.z args.w low.result c.pair_code.result low.ensures (sym c.is_pair.ensures ∙ c.if-is_pair.true) c.pair_code.ensures
