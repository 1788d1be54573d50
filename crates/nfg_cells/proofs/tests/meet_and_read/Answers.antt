use Rattle.std.proofs.Common.{ap, ◌∙◌}
use Rattle.nfg_syn.specs.Known.{text_at}
use Rattle.nfg_cells.specs.Notes.{known_of}
use Rattle.nfg_cells.proofs.TestLemmas.{back, met_text}
use Rattle.nfg_cells.proofs.tests.meet_and_read.Goals as goal

pub read_back-requires-clause-known : goal.read_back-requires-clause-known
read_back-requires-clause-known g c =
    let known = known_of c.meet.new.into.notes in
    ap (text_at known) (back c.args.n c.ranges.n.sfits) ∙ met_text (known_of c.args.into.now.notes) (known_of c.args.from.notes) known c.in-Ok.ensures.met.known c.args.n _ c.requires.known
