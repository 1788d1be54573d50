use Rattle.std.proofs.Common.{◌∙◌, ap, ◌==◌, ◌/◌, ◌%◌}
use Rattle.ucd_derived.specs.IndicConjunctBreak.{indic_conjunct_break}
use Rattle.nfg_text.proofs.PropertyParts.{conjunct_number}
use Rattle.nfg_text.proofs.NeighborFacts.{consonant_by_number}
use Rattle.nfg_text.proofs.breaks.Kind.is_consonant.Goals as goal

pub returns : goal.returns
returns c code kind =
    ap (λ n. n / 16 % 4 == 0) kind ∙ ap (λ n. n == 0) (conjunct_number code) ∙ consonant_by_number (indic_conjunct_break code)
