use Rattle.nfg_bench.specs.Workbench.{IsReady}
use Rattle.nfg_bench.proofs.timing.jobs_in_turn.Given as goal

abbrev pub invariant-loop-run : goal.invariant-loop-run
invariant-loop-run g l = IsReady l.bench
