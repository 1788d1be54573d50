use Rattle.nfg_text.proofs.Proved.{graphemes_at_stable, graphemes_at_stable_len, stable_len_is_greatest}
use Rattle.nfg_text.proofs.laws.graphemes_at_stable.Goals as goal

pub returns : goal.returns
returns c = record { between = graphemes_at_stable; greatest = stable_len_is_greatest; stay = graphemes_at_stable_len }
