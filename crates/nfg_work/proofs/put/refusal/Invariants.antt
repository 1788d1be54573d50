use Rattle.std.proofs.Common.{◌≡◌, ◌-◌, ◌≤◌, ℕ, List, take, length, None}
use Rattle.nfg_ops.specs.Reads.{HasAsked}
use Rattle.nfg_syn.specs.Represents.{Represents}
use Rattle.nfg_work.specs.Evaluation.{first_lacking}
use Rattle.nfg_work.proofs.put.refusal.Given as goal

abbrev pub invariant-looking : goal.invariant-looking
invariant-looking g l = record {
  inside : l.at ≤ length l.string.graphemes;
  numbers : length l.numbers ≡ 256;
  room : length l.buffer ≡ 1024;
  table : g.T.Synthetics.is_of l.table l.pass;
  asked : HasAsked (g.T.Synthetics.seen l.fn.pass) (g.T.Synthetics.seen l.pass);
  had : (clusters : List (List ℕ)) → Represents (g.T.Synthetics.seen l.fn.pass).known l.string.graphemes clusters
      → first_lacking l.e (take l.start clusters) ≡ None → first_lacking l.e (take l.at clusters) ≡ None;
}

abbrev pub decreases-looking : goal.decreases-looking
decreases-looking g l = l.len - l.at
