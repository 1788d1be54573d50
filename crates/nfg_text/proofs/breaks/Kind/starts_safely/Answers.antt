use Rattle.std.proofs.Common.{◌∙◌, ap, nat_lt}
use Rattle.nfg_text.proofs.PropertyParts.{safety_in_number}
use Rattle.nfg_text.proofs.breaks.Kind.starts_safely.Goals as goal

pub returns : goal.returns
returns c code kind = ap (λ n. nat_lt n 128) kind ∙ safety_in_number code
