use Rattle.nfg_work.proofs.Answered.{IsRunning}
use Rattle.nfg_work.proofs.alone.run_alone.Given as goal

abbrev pub invariant-running : goal.invariant-running
invariant-running l = IsRunning l.n l.script l.reads l.pass l.held l.k
