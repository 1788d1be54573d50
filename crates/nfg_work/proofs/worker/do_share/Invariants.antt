use Rattle.std.proofs.Common.{◌-◌, length}
use Rattle.nfg_syn.specs.Seen.{Keeps, SameCounts}
use Rattle.nfg_work.specs.Workers.{HasGiven}
use Rattle.nfg_work.proofs.worker.do_share.Given as goal

abbrev pub invariant-sharing : goal.invariant-sharing
invariant-sharing g l = record {
  table : g.T.Synthetics.is_of l.table l.pass;
  keeps : Keeps (g.T.Synthetics.seen l.fn.pass) (g.T.Synthetics.seen l.pass);
  counts : SameCounts (g.T.Synthetics.seen l.fn.pass) (g.T.Synthetics.seen l.pass);
  given : HasGiven l.work.script.now l.work.reads.now (g.T.Synthetics.seen l.fn.pass).known (g.T.Synthetics.seen l.pass).known l.given.items;
}

abbrev pub decreases-sharing : goal.decreases-sharing
decreases-sharing g l = length l.level.jobs.now - l.place
