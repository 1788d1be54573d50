use Rattle.std.proofs.Common.{ap, ◌∙◌}
use Rattle.nfg_syn.specs.Represents.{spelling}
use Rattle.nfg_cells.specs.Notes.{known_of}
use Rattle.nfg_cells.proofs.TestLemmas.{back, spelled}
use Rattle.nfg_cells.proofs.tests.read_back.Goals as goal

pub append_cluster-added-requires-clause-known : goal.append_cluster-added-requires-clause-known
append_cluster-added-requires-clause-known g c κs =
    let known = known_of c.args.pass.now.notes in
    (_, ap (spelling known) (back c.args.n c.ranges.n.sfits) ∙ spelled known c.args.n _ c.requires.known)
