use Rattle.nfg_bench.specs.Workbench.{IsReady}
use Rattle.nfg_bench.proofs.seam.keep_in_strands.Given as goal

abbrev pub invariant-loop-k : goal.invariant-loop-k
invariant-loop-k l = IsReady l.bench
