use Rattle.nfg_syn.specs.OwnTexts.{IsOwnPass}
use Rattle.nfg_bench.proofs.samples.samples.Given as goal

abbrev pub invariant-loop-k : goal.invariant-loop-k
invariant-loop-k l = IsOwnPass l.table l.pass
