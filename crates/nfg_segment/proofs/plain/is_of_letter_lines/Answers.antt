use Rattle.nfg_segment.proofs.PlainLines.{letters_of_lines}
use Rattle.nfg_segment.proofs.plain.is_of_letter_lines.Goals as goal

pub returns : goal.returns
returns c = letters_of_lines c.args.c
