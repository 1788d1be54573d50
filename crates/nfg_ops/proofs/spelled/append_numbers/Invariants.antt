use Rattle.std.proofs.Common.{◌≡◌, ◌≤◌, ◌++◌, ◌-◌, ℕ, List, length, take}
use Rattle.nfg_text.specs.Text.{text_of}
use Rattle.nfg_syn.specs.Represents.{Represents}
use Rattle.nfg_ops.specs.Reads.{HasAsked}
use Rattle.nfg_ops.proofs.spelled.append_numbers.Given as goal

-- the text of the numbers before is added
abbrev pub invariant-loop-at : goal.invariant-loop-at
invariant-loop-at g l = record {
  high : l.at ≤ length l.numbers;
  table : g.T.Synthetics.is_of l.table l.pass;
  asked : HasAsked (g.T.Synthetics.seen l.fn.pass) (g.T.Synthetics.seen l.pass);
  room : length l.scratch ≡ length l.fn.scratch;
  added : (clusters : List (List ℕ)) → Represents (g.T.Synthetics.seen l.fn.pass).known l.numbers clusters
      → l.into ≡ l.fn.into ++ text_of (take l.at clusters);
}

abbrev pub decreases-loop-at : goal.decreases-loop-at
decreases-loop-at g l = length l.numbers - l.at
