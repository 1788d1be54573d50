use Rattle.std.proofs.Common.{ℕ, ◌<◌, slice_index_or}
use Rattle.nfg_work.specs.declared.output.FileRead.{FileRead}
use Rattle.nfg_work.specs.Evaluation.{IsWithinLimit}
use Rattle.nfg_bench.proofs.workload.are_within.Given as goal

abbrev pub invariant-looking : goal.invariant-looking
invariant-looking l = (j : ℕ) (d : FileRead) → j < l.k → IsWithinLimit (slice_index_or l.reads j d)
