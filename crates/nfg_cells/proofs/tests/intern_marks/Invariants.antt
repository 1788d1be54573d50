use Rattle.nfg_cells.specs.Cells.{IsCellPass}
use Rattle.nfg_cells.proofs.tests.intern_marks.Given as goal

abbrev pub invariant-loop-mark : goal.invariant-loop-mark
invariant-loop-mark g l = IsCellPass l.table l.pass
