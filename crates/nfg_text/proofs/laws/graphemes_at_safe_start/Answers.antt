use Rattle.nfg_text.proofs.Proved.{clusters_at_safe_start, graphemes_at_safe_start, not_all_safe_starts_decide, safe_starts_decide}
use Rattle.nfg_text.proofs.laws.graphemes_at_safe_start.Goals as goal

pub returns : goal.returns
returns c = record { clusters = clusters_at_safe_start; graphemes = graphemes_at_safe_start; nowhere_else = safe_starts_decide; not_at_the_arrow = not_all_safe_starts_decide }
