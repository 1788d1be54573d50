use Rattle.std.proofs.Common.{◌≡◌, ◌++◌, ◌-◌, ◌≤◌, ℕ, List, take, length, None}
use Rattle.std.specs.List.{flat_map}
use Rattle.nfg_decode.specs.Encoding.{encode_code, text_start}
use Rattle.nfg_ops.specs.Reads.{HasAsked}
use Rattle.nfg_syn.specs.Represents.{Represents}
use Rattle.nfg_work.specs.Evaluation.{first_lacking}
use Rattle.nfg_work.proofs.put.put.Given as goal

abbrev pub invariant-putting : goal.invariant-putting
invariant-putting g l = record {
  inside : l.at ≤ length l.string.graphemes;
  table : g.T.Synthetics.is_of l.table l.pass;
  asked : HasAsked (g.T.Synthetics.seen l.fn.pass) (g.T.Synthetics.seen l.pass);
  had : (clusters : List (List ℕ)) → Represents (g.T.Synthetics.seen l.fn.pass).known l.string.graphemes clusters
      → first_lacking l.e (take l.at clusters) ≡ None;
  bytes : (clusters : List (List ℕ)) → Represents (g.T.Synthetics.seen l.fn.pass).known l.string.graphemes clusters
      → l.output ≡ (l.fn.output ++ text_start l.e) ++ flat_map (flat_map (encode_code l.e)) (take l.at clusters);
}

abbrev pub decreases-putting : goal.decreases-putting
decreases-putting g l = l.len - l.at
