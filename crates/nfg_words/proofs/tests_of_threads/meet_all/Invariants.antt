use Rattle.std.proofs.Common.{◌≡◌, false, length}
use Rattle.std.specs.Prelude.{All}
use Rattle.nfg_words.specs.Table.{IsWordPass, seen_of}
use Rattle.nfg_words.proofs.tests_of_threads.meet_all.Given as goal

abbrev pub invariant-meeting : goal.invariant-meeting
invariant-meeting g l = record {
  table : IsWordPass l.table l.root;
  fork_tables : All (λ caller. IsWordPass l.table caller.fork) l.callers.items;
  no_roots : All (λ caller. (seen_of caller.fork).root ≡ false) l.callers.items;
}

abbrev pub decreases-meeting : goal.decreases-meeting
decreases-meeting g l = length l.callers.items
