use Rattle.std.proofs.Common.{◌≡◌, [], ◌++◌, ◌∙◌, sym, ap, take, drop, arith, length-drop}
use Rattle.std.proofs.lemmas.List.{append-nil}
use Rattle.std.specs.Str.{chars}
use Rattle.nfg_decode.proofs.Utf8Text.{chars_of_empty}
use Rattle.nfg_decode.proofs.utf8_codes.fill_codes.Goals as goal

pub returns-clause-codes : goal.returns-clause-codes
returns-clause-codes c =
    let l = c.loop-at in
    let bytes = c.as_bytes-bytes.result.now in
    let none : chars (drop l.at bytes) ≡ [] = chars_of_empty (drop l.at bytes) (omega (arith, length-drop l.at bytes)) in
    sym (append-nil (take l.n l.codes)) ∙ ap (λ t. take l.n l.codes ++ t) (sym none) ∙ l.invariant.codes
