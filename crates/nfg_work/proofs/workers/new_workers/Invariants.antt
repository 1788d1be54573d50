use Rattle.std.proofs.Common.{◌≡◌, ◌+◌, length}
use Rattle.std.specs.Prelude.{All}
use Rattle.nfg_syn.specs.Known.{IsSame}
use Rattle.nfg_syn.specs.Seen.{Keeps}
use Rattle.nfg_work.specs.Workers.{IsReady}
use Rattle.nfg_work.proofs.workers.new_workers.Given as goal

abbrev pub invariant-forking : goal.invariant-forking
invariant-forking g l = record {
  table : g.T.Synthetics.is_of l.table l.pass;
  keeps : Keeps (g.T.Synthetics.seen l.fn.pass) (g.T.Synthetics.seen l.pass);
  known : IsSame (g.T.Synthetics.seen l.fn.pass).known (g.T.Synthetics.seen l.pass).known;
  meets : (g.T.Synthetics.seen l.pass).meets ≡ (g.T.Synthetics.seen l.fn.pass).meets;
  forks : (g.T.Synthetics.seen l.pass).forks ≡ (g.T.Synthetics.seen l.fn.pass).forks + l._k;
  many : length l.workers.items ≡ l._k;
  fork_tables : All (λ worker. g.T.Synthetics.is_of l.table worker.pass) l.workers.items;
  ready : All (λ worker. IsReady (g.T.Synthetics.seen l.fn.pass).known (g.T.Synthetics.seen worker.pass) worker.given.items) l.workers.items;
}
