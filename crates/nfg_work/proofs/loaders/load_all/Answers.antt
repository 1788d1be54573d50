use Rattle.std.proofs.Common.{◌+◌, slice_index_or}
use Rattle.nfg_work.specs.Parts.{part_at}
use Rattle.nfg_work.proofs.LoadedParts.{part_loaded}
use Rattle.nfg_work.proofs.loaders.load_all.Goals as goal

pub returns-clause-loaded : goal.returns-clause-loaded
returns-clause-loaded g c = λ k d within.
    let old = slice_index_or c.args.others.now k d in
    let new = slice_index_or c.load_together.new.others k d in
    part_loaded c.args.parts.encoding (part_at c.args.parts.bytes.now c.args.parts.bounds.now (k + 1)) (g.T.Synthetics.seen c.args.pass.now).known
    (g.T.Synthetics.seen old.pass) (g.T.Synthetics.seen new.pass) new.string (c.requires.ready k d within) (c.load_together.ensures.loaded k d within)
