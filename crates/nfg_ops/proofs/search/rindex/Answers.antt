-- the places at which numbers stand are those at which clusters occur
use Rattle.std.proofs.Common.{ℕ, List}
use Rattle.nfg_text.specs.Operations.{occurs_at}
use Rattle.nfg_syn.specs.Represents.{Represents}
use Rattle.nfg_ops.specs.Places.{stand_at}
use Rattle.nfg_ops.proofs.Standing.{stand-occurs}
use Rattle.nfg_ops.proofs.PlacesLemmas.{IsLast-same, last-place}
use Rattle.nfg_ops.proofs.search.rindex.Goals as goal

pub returns : goal.returns
returns g c =
    let knows = g.met.T.Synthetics.knows c.args.table.now c.args.pass.now c.requires.table in
    let found = c.last_occurrence.result in
    let stands = stand_at c.args.a.now.graphemes c.args.b.now.graphemes in
    let is = λ (list part : List (List ℕ)) (whole : Represents (g.T.Synthetics.seen c.args.pass.now).known c.args.a.now.graphemes list)
    (few : Represents (g.T.Synthetics.seen c.args.pass.now).known c.args.b.now.graphemes part).
    IsLast-same stands (occurs_at list part) (stand-occurs _ _ _ knows c.args.a.now.graphemes c.args.b.now.graphemes list part whole few)
    c.args.from found c.last_occurrence.ensures in
    record {
      last = λ list part whole few. is list part whole few;
      place = λ list part whole few. last-place list part c.args.from found (is list part whole few);
    }
