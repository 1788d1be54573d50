use Rattle.std.proofs.Common.{◌≡◌, ◌∙◌, ◌++◌, ap, sym, subst, drop, arith}
use Rattle.std.specs.Prelude.{is_some}
use Rattle.std.specs.Str.{chars}
use Rattle.std.specs.Str.Lossy.{utf8_error_len}
use Rattle.nfg_decode.specs.declared.encoding.Encoding.TheVariants.{Utf8}
use Rattle.nfg_decode.specs.Reads.{Reads}
use Rattle.nfg_decode.proofs.Utf8Text.{text_read, fault_read}
use Rattle.nfg_decode.proofs.utf8.read_checked.Goals as goal

pub returns-in_ok-append_text-in-Ok-clause-ok : goal.returns-in_ok-append_text-in-Ok-clause-ok
returns-in_ok-append_text-in-Ok-clause-ok c =
    let whole = c.in-Ok.ensures.cases in
    let old = c.args.into.now in
    text_read c.args.bytes.now old c.append_text.new.into whole.1 (c.in_ok-append_text-in-Ok.ensures.ok ∙ ap (λ t. old ++ chars t) whole.0)

pub returns-in_ok-append_text-in-Err-clause-ok : goal.returns-in_ok-append_text-in-Err-clause-ok
returns-in_ok-append_text-in-Err-clause-ok c =
    let bytes = c.args.bytes.now in
    let old = c.args.into.now in
    let new = c.append_text-in-Err.new.into in
    let at = c.valid_up_to-at.result in
    let fault = c.in-Err.ensures in
    let same = c.valid_up_to-at.ensures in
    let short = fault.cases.1.short in
    let told : is_some c.in-Err.error.error_len ≡ c.is_some.result = ap is_some (sym c.error_len.ensures) ∙ sym c.is_some.ensures in
    subst (λ b. Reads Utf8 bytes old new at b) told
    (fault_read bytes old new at c.in-Err.error.error_len (omega arith) (same ∙ fault.valid_len)
    (fault.fault ∙ ap (λ n. utf8_error_len (drop n bytes)) (sym same))
    (c.in_ok-append_text-in-Err.ensures.ok ∙ ap (λ t. old ++ chars t) c.from_utf8_unchecked-text.ensures))
