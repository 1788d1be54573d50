use Rattle.std.proofs.Common.{◌≡◌, true}
use Rattle.nfg_bench.proofs.tables.report_pass.Given as goal

abbrev pub invariant-loop-run : goal.invariant-loop-run
invariant-loop-run g l = record {
  pass : g.S.Synthetics.is_of l.table l.pass;
  root : (g.S.Synthetics.seen l.pass).root ≡ true;
}
