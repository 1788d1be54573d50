use Rattle.nfg_decode.specs.Encoding.{decode}
use Rattle.nfg_work.proofs.Wanted.{file_made, file_stopped}
use Rattle.nfg_work.proofs.making.string_of_file.Goals as goal

pub returns-in-Ok-clause-made : goal.returns-in-Ok-clause-made
returns-in-Ok-clause-made g c = file_made (g.T.Synthetics.size c.args.table.now) (g.T.Synthetics.seen c.args.pass.now) (g.T.Synthetics.seen c.load_bytes.new.pass) (decode c.args.e c.args.bytes.now) c.in-Ok.string (g.met.T.Synthetics.knows c.args.table.now c.load_bytes.new.pass c.in-Ok.ensures.table) c.in-Ok.ensures.loaded

pub returns-in-Err-clause-made : goal.returns-in-Err-clause-made
returns-in-Err-clause-made g c = file_stopped (g.T.Synthetics.seen c.args.pass.now) (g.T.Synthetics.seen c.load_bytes.new.pass) (decode c.args.e c.args.bytes.now) c.in-Err.error c.stop_of.result c.in-Err.ensures.loaded c.stop_of.ensures
