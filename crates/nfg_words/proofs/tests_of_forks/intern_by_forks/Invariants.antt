use Rattle.std.proofs.Common.{◌≡◌, true}
use Rattle.nfg_words.specs.Table.{IsWordPass, seen_of}
use Rattle.nfg_words.proofs.tests_of_forks.intern_by_forks.Given as goal

abbrev pub invariant-loop-k : goal.invariant-loop-k
invariant-loop-k g l = IsWordPass l.table l.root × ((seen_of l.root).root ≡ true)
