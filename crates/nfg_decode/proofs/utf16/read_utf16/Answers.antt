use Rattle.std.proofs.Common.{arith}
use Rattle.std.proofs.lemmas.List.{take_rest}
use Rattle.nfg_decode.proofs.Utf16Tails.{units_read}
use Rattle.nfg_decode.proofs.utf16.read_utf16.Goals as goal

pub returns-clause-ok : goal.returns-clause-ok
returns-clause-ok c =
    units_read c.args.order c.args.bytes.now c.args.into.now c.append_units.new.into c.in_ok-at.at c.is_past_hope-is_malformed.result
    (λ i. omega (arith, c.type_inv.bytes i)) c.in_ok-at.ensures.ok (rw take_rest at c.is_past_hope-is_malformed.ensures)
