use Rattle.std.proofs.Common.{arith, [], sym, subst}
use Rattle.nfg_decode.proofs.StreamLemmas.{bytes_all}
use Rattle.nfg_decode.specs.State.{GivesNext}
use Rattle.nfg_text.specs.Text.{IsText}
use Rattle.nfg_stream.proofs.ReadingLemmas.{codes-text_some, reading-more}
use Rattle.nfg_stream.proofs.reader.Reader.take_part.Goals as goal

pub feed-requires-2 : goal.feed-requires-2
feed-requires-2 c =
    subst IsText (sym c.as_slice.ensures)
    (codes-text_some c.args.self.now c.args.piece.now c.feed.new.into c.requires.reading
    (bytes_all c.args.piece.now (λ i. omega (arith, c.type_inv.piece i)))
    (λ e bytes decoded. subst (λ old. GivesNext e bytes c.args.piece.now old c.feed.new.into) c.truncate.ensures (c.in-Ok.ensures.decoded e bytes decoded)))

pub returns-in-Ok-feed-clause-taken : goal.returns-in-Ok-feed-clause-taken
returns-in-Ok-feed-clause-taken c e bytes reading = (
  reading-more c.args.self.now _ e bytes c.args.piece.now c.as_slice.result.now reading
      (bytes_all c.args.piece.now (λ i. omega (arith, c.type_inv.piece i)))
      (c.in-Ok.ensures.read e bytes reading.decoded)
      (subst (λ codes. GivesNext e bytes c.args.piece.now [] codes) (sym c.as_slice.ensures)
      (subst (λ old. GivesNext e bytes c.args.piece.now old c.feed.new.into) c.truncate.ensures (c.in-Ok.ensures.decoded e bytes reading.decoded)))
      c.in-Ok-feed.ensures.fed,
  λ at bad. let never = c.in-Ok.ensures.found e bytes at reading.decoded bad in cc,
)
