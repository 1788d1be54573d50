use Rattle.std.proofs.Common.{nat_lt, ap, ◌∙◌}
use Rattle.nfg_text.proofs.PropertyParts.{safety_in_number}
use Rattle.nfg_text.proofs.normal.starts_safely.Goals as goal

pub returns : goal.returns
returns c = ap (λ n. nat_lt n 128) c.properties_of.ensures ∙ safety_in_number c.args.c
