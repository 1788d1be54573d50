use Rattle.std.proofs.Common.{◌≡◌, ◌+◌, false, List, length}
use Rattle.std.specs.Prelude.{All}
use Rattle.nfg_syn.specs.Seen.{Keeps}
use Rattle.nfg_script.specs.Script.{NumberedCommand}
use Rattle.nfg_work.specs.declared.output.FileRead.{FileRead}
use Rattle.nfg_work.specs.Outcomes.{AreRight}
use Rattle.nfg_work.specs.Workers.{HasMet, IsDone}
use Rattle.nfg_work.proofs.meeting.meet_all.Given as goal

abbrev pub invariant-meeting : goal.invariant-meeting
invariant-meeting g l = record {
  table : g.T.Synthetics.is_of l.table l.pass;
  fork_tables : All (λ worker. g.T.Synthetics.is_of l.table worker.pass) l.workers.items;
  no_roots : All (λ worker. (g.T.Synthetics.seen worker.pass).root ≡ false) l.workers.items;
  no_meets : All (λ worker. (g.T.Synthetics.seen worker.pass).meets ≡ 0) l.workers.items;
  keeps : Keeps (g.T.Synthetics.seen l.fn.pass) (g.T.Synthetics.seen l.pass);
  forks : (g.T.Synthetics.seen l.pass).forks ≡ (g.T.Synthetics.seen l.fn.pass).forks;
  meets : (g.T.Synthetics.seen l.pass).meets + length l.workers.items ≡ (g.T.Synthetics.seen l.fn.pass).meets + length l.fn.workers.items;
  met : (script : List NumberedCommand) (reads : List FileRead)
      → All (λ worker. IsDone script reads (g.T.Synthetics.seen l.fn.pass).known (g.T.Synthetics.seen worker.pass) worker.given.items worker.is_short) l.fn.workers.items
      → AreRight (g.T.Synthetics.seen l.fn.pass).known script reads l.fn.outcomes
      → HasMet script reads (g.T.Synthetics.seen l.fn.pass).known (g.T.Synthetics.seen l.pass).known l.outcomes
      × All (λ worker. IsDone script reads (g.T.Synthetics.seen l.pass).known (g.T.Synthetics.seen worker.pass) worker.given.items worker.is_short) l.workers.items;
}

abbrev pub decreases-meeting : goal.decreases-meeting
decreases-meeting g l = length l.workers.items
