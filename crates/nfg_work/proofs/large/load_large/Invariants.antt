use Rattle.std.proofs.Common.{◌*◌}
use Rattle.nfg_syn.specs.Seen.{Keeps}
use Rattle.nfg_work.specs.Workers.{CountAlike, HasMet}
use Rattle.nfg_work.proofs.large.load_large.Given as goal

abbrev pub invariant-loading : goal.invariant-loading
invariant-loading g l = record {
  table : g.T.Synthetics.is_of l.table l.pass;
  keeps : Keeps (g.T.Synthetics.seen l.fn.pass) (g.T.Synthetics.seen l.pass);
  counted : CountAlike (l.others * l.k) (g.T.Synthetics.seen l.fn.pass) (g.T.Synthetics.seen l.pass);
  met : HasMet l.script l.reads (g.T.Synthetics.seen l.fn.pass).known (g.T.Synthetics.seen l.pass).known l.outcomes;
}
