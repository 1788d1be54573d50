use Rattle.nfg_text.proofs.Proved.{broken_where_parted, clusters_at_break, clusters_where_broken}
use Rattle.nfg_text.proofs.laws.clusters_at_break.Goals as goal

pub returns : goal.returns
returns c = record { at_ends = clusters_at_break; by_rules = clusters_where_broken; nowhere_else = broken_where_parted }
