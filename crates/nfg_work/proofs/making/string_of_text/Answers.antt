use Rattle.nfg_text.specs.Graphemes.{graphemes_of}
use Rattle.nfg_work.proofs.Wanted.{text_made, text_stopped}
use Rattle.nfg_work.proofs.making.string_of_text.Goals as goal

pub returns-in-Ok-clause-made : goal.returns-in-Ok-clause-made
returns-in-Ok-clause-made g c = text_made (g.T.Synthetics.size c.args.table.now) (g.T.Synthetics.seen c.args.pass.now) (g.T.Synthetics.seen c.string_of.new.pass) (graphemes_of c.args.codes.now) c.in-Ok.string (g.met.T.Synthetics.knows c.args.table.now c.string_of.new.pass c.in-Ok.ensures.table) c.in-Ok.ensures.made

pub returns-in-Err-clause-made : goal.returns-in-Err-clause-made
returns-in-Err-clause-made g c = text_stopped (g.T.Synthetics.seen c.args.pass.now) (g.T.Synthetics.seen c.string_of.new.pass) (graphemes_of c.args.codes.now) c.in-Err.error c.stop_of.result c.in-Err.ensures.made c.stop_of.ensures
