use Rattle.nfg_work.proofs.LargeLoads.{parts_made, parts_stopped}
use Rattle.nfg_work.proofs.large.load_large_file.Goals as goal

pub returns-in-Ok-clause-done : goal.returns-in-Ok-clause-done
returns-in-Ok-clause-done g c = λ script reads k file.
    let laws = g.met.T.Synthetics g.world.𝓛 g.world.𝓜 g.world.𝓡 ((λ s x. x), (λ x. x), (λ x. x), λ x. x) in
    parts_made (g.T.Synthetics.size c.args.table.now) script reads k c.args.file.encoding c.args.file.bytes.now (g.T.Synthetics.seen c.args.pass.now)
    (g.T.Synthetics.seen c.load_parts-made.new.pass) c.in-Ok.string file (laws.knows c.args.table.now c.load_parts-made.new.pass c.in-Ok.ensures.table)
    c.in-Ok.ensures.loaded

pub returns-clause-done : goal.returns-clause-done
returns-clause-done g c = λ script reads k file.
    parts_stopped script reads k c.args.file.encoding c.args.file.bytes.now (g.T.Synthetics.seen c.args.pass.now) (g.T.Synthetics.seen c.load_parts-made.new.pass)
    c.in-Err.error c.stop_of.result c.outcome_of.result file c.in-Err.ensures.loaded c.stop_of.ensures c.outcome_of.ensures
