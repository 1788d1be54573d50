use Rattle.std.proofs.Common.{sym, subst, Ok}
use Rattle.nfg_stream.specs.Reading.{HasEnded}
use Rattle.nfg_stream.proofs.ReadingLemmas.{ended-text}
use Rattle.nfg_stream.proofs.reader.Reader.end.Goals as goal

pub returns-in-Ok-finish : goal.returns-in-Ok-finish
returns-in-Ok-finish c = record {
  ended = λ e bytes reading.
      subst (λ d. HasEnded c.finish-2.new.out d (Ok tt)) (sym (c.in-Ok.ensures.whole e bytes reading.decoded))
      (ended-text c.args.self.now e bytes _ c.finish-2.new.out reading c.in-Ok-finish.ensures.finished);
}
