use Rattle.nfg_cells.proofs.RowLemmas.{AreFirstPlaces}
use Rattle.nfg_cells.proofs.row.first_places.Given as goal

abbrev pub invariant-loop-k : goal.invariant-loop-k
invariant-loop-k l = AreFirstPlaces l.cells l.notes.items l.k
