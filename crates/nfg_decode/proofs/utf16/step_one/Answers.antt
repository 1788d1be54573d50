use Rattle.std.proofs.Common.{refl, sym, ◌∙◌, arith}
use Rattle.nfg_decode.proofs.Utf16Tails.{cut_byte}
use Rattle.nfg_decode.proofs.utf16.step_one.Goals as goal

pub returns : goal.returns
returns c = (refl, cut_byte c.args.order c.args.x (omega arith) (sym c.is_first_low.ensures ∙ c.if-is_first_low.false))
