use Rattle.std.proofs.Common.{◌∙◌, ap, sym, length}
use Rattle.std.proofs.lemmas.List.{take_at}
use Rattle.std.proofs.lemmas.Str.{chars-IsAscii}
use Rattle.std.specs.Str.{chars, IsAscii}
use Rattle.nfg_decode.proofs.utf8_codes.fill.Goals as goal

pub returns-then-is_ascii-clause-codes : goal.returns-then-is_ascii-clause-codes
returns-then-is_ascii-clause-codes c =
    let bytes = c.as_bytes-bytes.result.now in
    let plain : IsAscii bytes = rw c.if-is_ascii.true at c.is_ascii.ensures in
    take_at c.widen.new.codes _ (length bytes) (ap length c.widen.ensures)
    ∙ c.widen.ensures
    ∙ sym (chars-IsAscii bytes plain)
    ∙ ap chars c.as_bytes-bytes.ensures.value
