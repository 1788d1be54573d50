use Rattle.nfg_text.proofs.Proved.{composites_keep_breaks, composites_start_with_starters, starters_start_with_starters}
use Rattle.nfg_text.proofs.laws.composites_start_with_starters.Goals as goal

pub returns : goal.returns
returns c = record { composites = composites_start_with_starters; starters = starters_start_with_starters; breaks = composites_keep_breaks }
