use Rattle.std.proofs.Common.{◌≡◌, ◌≤◌, ◌-◌, ℕ, List, length, take}
use Rattle.nfg_text.specs.Text.{text_of}
use Rattle.nfg_syn.specs.Represents.{Represents}
use Rattle.nfg_ops.specs.Reads.{HasAsked}
use Rattle.nfg_ops.proofs.spelled.spell.Given as goal

-- the text of the numbers that were read stands at the front
abbrev pub invariant-loop-read : goal.invariant-loop-read
invariant-loop-read g l = record {
  high : l.read ≤ length l.numbers;
  filled : l.filled ≤ length l.into;
  room : length l.into ≡ length l.fn.into;
  none : l.read ≡ 0 → l.filled ≡ 0;
  table : g.T.Synthetics.is_of l.table l.pass;
  asked : HasAsked (g.T.Synthetics.seen l.fn.pass) (g.T.Synthetics.seen l.pass);
  written : (clusters : List (List ℕ)) → Represents (g.T.Synthetics.seen l.fn.pass).known l.numbers clusters
      → take l.filled l.into ≡ text_of (take l.read clusters);
}

abbrev pub decreases-loop-read : goal.decreases-loop-read
decreases-loop-read g l = length l.numbers - l.read
