use Rattle.nfg_segment.proofs.PlainLines.{east_asian_of_lines}
use Rattle.nfg_segment.proofs.plain.is_of_east_asian_lines.Goals as goal

pub returns : goal.returns
returns c = east_asian_of_lines c.args.c
