use Rattle.nfg_seam.proofs.TestStrings.{flat-graphemes}
use Rattle.nfg_seam.proofs.tests.string_of.Goals as goal

pub returns-in-Ok-clause-graphemes : goal.returns-in-Ok-clause-graphemes
returns-in-Ok-clause-graphemes g c =
    flat-graphemes (g.T.Synthetics.seen c.number_repeated.new.pass).known c.args.text.now c.in-Ok.numbers.items c.flat.result c.in-Ok.ensures.numbers.represents c.flat.ensures
