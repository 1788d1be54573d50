use Rattle.nfg_text.proofs.PlainTable.{plain_by_word}
use Rattle.nfg_text.proofs.properties.is_plain_by_table.Goals as goal

pub returns : goal.returns
returns c = plain_by_word c.args.c c.requires
