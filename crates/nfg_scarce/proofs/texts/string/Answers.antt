use Rattle.nfg_text.specs.Graphemes.{graphemes_of}
use Rattle.nfg_text.proofs.Proved.{graphemes_are_in_nfg}
use Rattle.nfg_scarce.proofs.texts.string.Goals as goal

pub returns-in-Ok-clause-known : goal.returns-in-Ok-clause-known
returns-in-Ok-clause-known g c =
    (graphemes_of c.args.text.now, c.in-Ok.ensures.made.represents, graphemes_are_in_nfg c.args.text.now)
