use Rattle.nfg_cells.specs.Cells.{IsCellPass}
use Rattle.nfg_cells.proofs.tests.the_code_points_of_a_number_are_read_back.Given as goal

abbrev pub invariant-loop-codes : goal.invariant-loop-codes
invariant-loop-codes g l = IsCellPass l.table l.pass
