use Rattle.nfg_text.proofs.Proved.{graphemes_at_plain, plain_breaks_before_line_feed, plain_pairs_break, plain_runs_are_singles}
use Rattle.nfg_text.proofs.laws.graphemes_at_plain.Goals as goal

pub returns : goal.returns
returns c = record { settled = graphemes_at_plain; singles = plain_runs_are_singles; breaks = plain_pairs_break; before_line_feed = plain_breaks_before_line_feed }
