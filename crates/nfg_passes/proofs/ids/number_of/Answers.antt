use Rattle.std.proofs.Common.{◌∙◌}
use Rattle.nfg_passes.proofs.IdTable.{table_is_trie, table_gives}
use Rattle.nfg_passes.proofs.ids.number_of.Goals as goal

pub get-requires : goal.get-requires
get-requires c = table_is_trie

pub returns : goal.returns
returns c = c.get.ensures ∙ table_gives c.args.c
