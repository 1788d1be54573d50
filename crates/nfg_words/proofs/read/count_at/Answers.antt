use Rattle.std.proofs.Common.{ap, ◌∙◌}
use Rattle.nfg_words.specs.Layout.{length_of}
use Rattle.nfg_words.specs.Passes.{view_of}
use Rattle.nfg_words.proofs.KnownLemmas.{its_bucket, its_length}
use Rattle.nfg_words.proofs.read.count_at.Goals as goal

pub returns-clause-count : goal.returns-clause-count
returns-clause-count g c = λ text read.
    let view = view_of c.args.pass.now in
    let sound = c.requires.pass.held.seat.sound in
    let at = its_bucket c.args.n view sound c.args.place text read in
    c.length_of.ensures ∙ (ap length_of (c.read_again-bucket.ensures.recorded at.0 at.1) ∙ its_length c.args.n view sound c.args.place text read)
