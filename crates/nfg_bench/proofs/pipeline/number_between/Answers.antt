use Rattle.nfg_bench.proofs.TextLemmas.{text_part}
use Rattle.nfg_bench.proofs.pipeline.number_between.Goals as goal

pub number_of-requires-clause-text : goal.number_of-requires-clause-text
number_of-requires-clause-text c = text_part _ _ c.args.codes.now c.requires.text
