use Rattle.nfg_text.proofs.Proved.{ascii_composites_are_ordinary, ascii_pairs_break, ascii_stands_alone}
use Rattle.nfg_text.proofs.laws.ascii_stands_alone.Goals as goal

pub returns : goal.returns
returns c = record { alone = ascii_stands_alone; pairs = ascii_pairs_break; composites = ascii_composites_are_ordinary }
