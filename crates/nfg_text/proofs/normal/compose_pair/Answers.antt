use Rattle.nfg_text.proofs.Pairs.{in_place}
use Rattle.nfg_text.proofs.normal.compose_pair.Goals as goal

pub returns-clause-in_place : goal.returns-clause-in_place
returns-clause-in_place c = in_place c.args.first c.args.second c.compose.result c.compose.ensures
