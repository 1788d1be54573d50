use Rattle.nfg_syn.specs.RepresentsLaws.{Represents-grows}
use Rattle.nfg_seam.proofs.tests.joined.Goals as goal

pub concat-requires-clause-left : goal.concat-requires-clause-left
concat-requires-clause-left g c κs within =
    let first = c.in_ok-first.ensures.graphemes in
    (first.0, Represents-grows _ _ c.in_ok-second.ensures.keeps.known c.in_ok-first.first.graphemes first.0 first.1, first.2)
