use Rattle.nfg_words.specs.Table.{IsWordPass}
use Rattle.nfg_words.proofs.tests_of_tables.intern_marks.Given as goal

abbrev pub invariant-loop-mark : goal.invariant-loop-mark
invariant-loop-mark g l = IsWordPass l.table l.pass
