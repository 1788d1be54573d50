use Rattle.std.proofs.Common.{◌≡◌, ◌+◌, length}
use Rattle.std.specs.Prelude.{All}
use Rattle.nfg_syn.specs.Known.{IsSame}
use Rattle.nfg_syn.specs.Seen.{Keeps}
use Rattle.nfg_work.specs.Parts.{IsReadyToLoad}
use Rattle.nfg_work.proofs.loaders.new_loaders.Given as goal

abbrev pub invariant-forking : goal.invariant-forking
invariant-forking g l = record {
  table : g.T.Synthetics.is_of l.table l.pass;
  keeps : Keeps (g.T.Synthetics.seen l.fn.pass) (g.T.Synthetics.seen l.pass);
  known : IsSame (g.T.Synthetics.seen l.fn.pass).known (g.T.Synthetics.seen l.pass).known;
  meets : (g.T.Synthetics.seen l.pass).meets ≡ (g.T.Synthetics.seen l.fn.pass).meets;
  forks : (g.T.Synthetics.seen l.pass).forks ≡ (g.T.Synthetics.seen l.fn.pass).forks + l._k;
  many : length l.loaders.items ≡ l._k;
  fork_tables : All (λ loader. g.T.Synthetics.is_of l.table loader.pass) l.loaders.items;
  ready : All (λ loader. IsReadyToLoad (g.T.Synthetics.seen l.fn.pass).known (g.T.Synthetics.seen loader.pass)) l.loaders.items;
}
