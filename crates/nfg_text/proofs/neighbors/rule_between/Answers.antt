use Rattle.nfg_text.proofs.NeighborFacts.{by_table}
use Rattle.nfg_text.proofs.neighbors.rule_between.Goals as goal

pub returns : goal.returns
returns c a b left right = by_table c.args.left c.args.right a b left right
