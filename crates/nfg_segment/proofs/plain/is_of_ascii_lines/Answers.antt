use Rattle.nfg_segment.proofs.PlainLines.{ascii_of_lines}
use Rattle.nfg_segment.proofs.plain.is_of_ascii_lines.Goals as goal

pub returns : goal.returns
returns c = ascii_of_lines c.args.c
