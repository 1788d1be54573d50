use Rattle.std.proofs.Common.{sym}
use Rattle.nfg_decode.specs.declared.reading.Form.TheVariants as forms
use Rattle.nfg_decode.specs.declared.utf16.ByteOrder.TheVariants.{Little, Big}
use Rattle.nfg_decode.proofs.StateLemmas.{first_is}
use Rattle.nfg_decode.proofs.state.first_state.Goals as goal

pub returns-in-Utf8-clause-open : goal.returns-in-Utf8-clause-open
returns-in-Utf8-clause-open c = first_is c.args.encoding forms.Utf8 (sym c.in-Utf8.is)

pub returns-in-Utf16Le-clause-open : goal.returns-in-Utf16Le-clause-open
returns-in-Utf16Le-clause-open c = first_is c.args.encoding (forms.Utf16 Little) (sym c.in-Utf16Le.is)

pub returns-in-Utf16Be-clause-open : goal.returns-in-Utf16Be-clause-open
returns-in-Utf16Be-clause-open c = first_is c.args.encoding (forms.Utf16 Big) (sym c.in-Utf16Be.is)

pub returns-in-Latin1-clause-open : goal.returns-in-Latin1-clause-open
returns-in-Latin1-clause-open c = first_is c.args.encoding forms.Latin1 (sym c.in-Latin1.is)
