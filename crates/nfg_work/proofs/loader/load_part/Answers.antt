use Rattle.nfg_work.proofs.LoadedParts.{loaded_grows}
use Rattle.nfg_work.proofs.loader.load_part.Goals as goal

pub returns-in-Ok-clause-grown : goal.returns-in-Ok-clause-grown
returns-in-Ok-clause-grown g c =
    loaded_grows c.args.e c.args.bytes.now (g.T.Synthetics.seen c.args.pass.now) (g.T.Synthetics.seen c.load_bytes.new.pass) c.load_bytes.result
    c.load_bytes.ensures.loaded

pub returns-in-Err-OutOfMemory-clause-grown : goal.returns-in-Err-OutOfMemory-clause-grown
returns-in-Err-OutOfMemory-clause-grown g c =
    loaded_grows c.args.e c.args.bytes.now (g.T.Synthetics.seen c.args.pass.now) (g.T.Synthetics.seen c.load_bytes.new.pass) c.load_bytes.result
    c.load_bytes.ensures.loaded

pub returns-in-Err : goal.returns-in-Err
returns-in-Err g c = record {
  table = c.load_bytes.ensures.table;
  keeps = c.load_bytes.ensures.keeps;
  counts = c.load_bytes.ensures.counts;
  grown = loaded_grows c.args.e c.args.bytes.now (g.T.Synthetics.seen c.args.pass.now) (g.T.Synthetics.seen c.load_bytes.new.pass) c.load_bytes.result
      c.load_bytes.ensures.loaded;
  string = tt;
}
