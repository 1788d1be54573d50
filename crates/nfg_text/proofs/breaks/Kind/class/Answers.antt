use Rattle.std.proofs.Common.{◌∙◌, ap, ◌%◌}
use Rattle.nfg_text.proofs.PropertyParts.{class_number}
use Rattle.nfg_text.proofs.breaks.Kind.class.Goals as goal

pub returns : goal.returns
returns c code kind = ap (λ n. n % 16) kind ∙ class_number code
