use Rattle.std.proofs.Common.{◌∙◌, ap, sym, lt-ltb}
use Rattle.nfg_text.specs.Properties.{is_plain_number}
use Rattle.nfg_text.proofs.PropertyParts.{is_plain-below}
use Rattle.nfg_text.proofs.breaks.Kind.is_plain.Goals as goal

pub returns : goal.returns
returns c code low kind = c.is_plain_number.ensures ∙ ap is_plain_number kind ∙ sym (is_plain-below code (lt-ltb code 0x11_0000 low))
