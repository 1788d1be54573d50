use Rattle.std.proofs.Common.{◌≡◌, true, false}
use Rattle.std.specs.Prelude.{All}
use Rattle.nfg_words.specs.Table.{IsWordPass, seen_of}
use Rattle.nfg_words.proofs.tests_of_threads.new_callers.Given as goal

abbrev pub invariant-forking : goal.invariant-forking
invariant-forking l = record {
  table : IsWordPass l.table l.root;
  root : (seen_of l.root).root ≡ true;
  fork_tables : All (λ caller. IsWordPass l.table caller.fork) l.callers.items;
  no_roots : All (λ caller. (seen_of caller.fork).root ≡ false) l.callers.items;
}
