use Rattle.std.proofs.Common.{◌<◌, ◌≤◌, length}
use Rattle.std.specs.Prelude.{All}
use Rattle.nfg_work.proofs.level_jobs.jobs_by_level.Given as goal

abbrev pub invariant-listing : goal.invariant-listing
invariant-listing l = record {
  places : All (λ list. All (λ place. place < length l.script) list.items) l.lists.items;
  few : length l.lists.items ≤ l.k;
}
