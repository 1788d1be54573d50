use Rattle.std.proofs.Common.{◌≡◌}
use Rattle.nfg_words.specs.Table.{IsWordPass, seen_of}
use Rattle.nfg_words.proofs.tests_of_threads.intern_drawn.Given as goal

abbrev pub invariant-loop-k : goal.invariant-loop-k
invariant-loop-k l = IsWordPass l.table l.caller.fork × ((seen_of l.caller.fork).root ≡ (seen_of l.fn.caller.fork).root)
