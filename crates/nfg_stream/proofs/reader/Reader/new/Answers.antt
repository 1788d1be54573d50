use Rattle.nfg_stream.proofs.ReadingLemmas.{reading-none}
use Rattle.nfg_stream.proofs.reader.Reader.new.Goals as goal

pub returns-clause-reading : goal.returns-clause-reading
returns-clause-reading c = reading-none _ c.args.encoding c.new.ensures.read c.new-3.ensures c.new-4.ensures
