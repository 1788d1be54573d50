use Rattle.nfg_syn.specs.KnownLaws.{row_size_most}
use Rattle.nfg_words.proofs.table.WordTable.new.Goals as goal

pub new_words-requires : goal.new_words-requires
new_words-requires c = row_size_most c.args.n c.requires
