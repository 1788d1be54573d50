use Rattle.std.proofs.Common.{◌∙◌, ap, ◌==◌, ◌||◌, ◌&&◌, ◌/◌, ◌%◌}
use Rattle.ucd_derived.specs.IndicConjunctBreak.{indic_conjunct_break}
use Rattle.nfg_text.proofs.PropertyParts.{conjunct_number}
use Rattle.nfg_text.proofs.NeighborFacts.{linked_by_number}
use Rattle.nfg_text.proofs.breaks.Kind.is_linked_after.Goals as goal

pub returns : goal.returns
returns c code kind =
    ap (λ n. (n == 2) || ((n == 1) && c.args.before)) (ap (λ n. n / 16 % 4) kind ∙ conjunct_number code)
    ∙ linked_by_number (indic_conjunct_break code) c.args.before
