use Rattle.std.proofs.Common.{◌≡◌, ℕ, List, take, length, None}
use Rattle.nfg_ops.specs.Reads.{HasAsked}
use Rattle.nfg_syn.specs.Represents.{Represents}
use Rattle.nfg_work.specs.Evaluation.{first_lacking}
use Rattle.nfg_work.proofs.put.lacking.Given as goal

abbrev pub invariant-looking : goal.invariant-looking
invariant-looking g l = record {
  table : g.T.Synthetics.is_of l.table l.pass;
  asked : HasAsked (g.T.Synthetics.seen l.fn.pass) (g.T.Synthetics.seen l.pass);
  room : length l.buffer ≡ 1024;
  had : (clusters : List (List ℕ)) → Represents (g.T.Synthetics.seen l.fn.pass).known l.numbers clusters
      → first_lacking l.e (take l.i clusters) ≡ None;
}
