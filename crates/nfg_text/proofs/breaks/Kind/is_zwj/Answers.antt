use Rattle.std.proofs.Common.{◌∙◌, ap, ◌==◌}
use Rattle.ucd_breaks.specs.GraphemeClusterBreak.{grapheme_cluster_break}
use Rattle.nfg_text.proofs.NeighborFacts.{zwj_by_number}
use Rattle.nfg_text.proofs.breaks.Kind.is_zwj.Goals as goal

pub returns : goal.returns
returns c code kind = ap (λ n. n == 13) (c.class.ensures code kind) ∙ zwj_by_number (grapheme_cluster_break code)
