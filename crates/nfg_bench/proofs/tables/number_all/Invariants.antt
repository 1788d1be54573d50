use Rattle.std.proofs.Common.{◌≡◌}
use Rattle.nfg_bench.proofs.tables.number_all.Given as goal

abbrev pub invariant-loop-sample : goal.invariant-loop-sample
invariant-loop-sample g l = record {
  pass : g.S.Synthetics.is_of l.table l.pass;
  root : (g.S.Synthetics.seen l.pass).root ≡ (g.S.Synthetics.seen l.initial.pass).root;
}
