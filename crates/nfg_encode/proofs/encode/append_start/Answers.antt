use Rattle.std.proofs.Common.{◌++◌, ◌∙◌, sym, ap}
use Rattle.std.proofs.lemmas.List.{append-nil}
use Rattle.nfg_encode.proofs.TextLemmas.{only_utf16}
use Rattle.nfg_encode.proofs.encode.append_start.Goals as goal

pub returns-in_default-clause-ok : goal.returns-in_default-clause-ok
returns-in_default-clause-ok c =
    let into = c.args.into.now in
    sym (append-nil into) ∙ ap (λ l. into ++ l) (sym (only_utf16 c.args.e c.in_default.not-Utf16))
