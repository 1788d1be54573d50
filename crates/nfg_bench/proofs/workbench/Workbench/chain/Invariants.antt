use Rattle.nfg_bench.specs.Workbench.{IsReady}
use Rattle.nfg_bench.proofs.workbench.Workbench.chain.Given as goal

abbrev pub invariant-loop-k : goal.invariant-loop-k
invariant-loop-k l = IsReady l.self
