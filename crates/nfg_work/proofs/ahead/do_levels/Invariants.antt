use Rattle.std.proofs.Common.{◌+◌, ◌-◌, ◌*◌, length}
use Rattle.nfg_syn.specs.Seen.{Keeps}
use Rattle.nfg_work.specs.Workers.{CountAlike, HasMet}
use Rattle.nfg_work.proofs.ahead.do_levels.Given as goal

abbrev pub invariant-leveling : goal.invariant-leveling
invariant-leveling g l = record {
  table : g.T.Synthetics.is_of l.table l.pass;
  keeps : Keeps (g.T.Synthetics.seen l.fn.pass) (g.T.Synthetics.seen l.pass);
  counted : CountAlike ((l.workers - 1) * length l.script + l.workers * l.level) (g.T.Synthetics.seen l.fn.pass) (g.T.Synthetics.seen l.pass);
  met : HasMet l.script l.reads (g.T.Synthetics.seen l.fn.pass).known (g.T.Synthetics.seen l.pass).known l.list.items;
}
