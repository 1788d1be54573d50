use Rattle.std.proofs.Common.{◌∙◌, ap, ◌==◌, ◌/◌, ◌%◌}
use Rattle.nfg_text.proofs.PropertyParts.{pictograph_in_number}
use Rattle.nfg_text.proofs.breaks.Kind.is_pictograph.Goals as goal

pub returns : goal.returns
returns c code kind = ap (λ n. n / 64 % 2 == 1) kind ∙ pictograph_in_number code
