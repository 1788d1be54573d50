use Rattle.nfg_words.specs.Table.{IsWordPass}
use Rattle.nfg_words.proofs.tests_of_threads.intern_again.Given as goal

abbrev pub invariant-loop-text : goal.invariant-loop-text
invariant-loop-text g l = IsWordPass l.table l.root
