use Rattle.std.proofs.Common.{◌≡◌, ◌*◌, ◌-◌, ◌≤◌, ℕ, List, ◌++◌, take, length}
use Rattle.std.specs.List.{flat_map}
use Rattle.nfg_ops.specs.Reads.{HasAsked}
use Rattle.nfg_syn.specs.Represents.{Represents}
use Rattle.nfg_work.specs.Separated.{shown_with_space}
use Rattle.nfg_work.proofs.printing.show_part.Given as goal

abbrev pub invariant-showing : goal.invariant-showing
invariant-showing g l = record {
  inside : l.at ≤ length l.numbers;
  table : g.T.Synthetics.is_of l.table l.pass;
  asked : HasAsked (g.T.Synthetics.seen l.fn.pass) (g.T.Synthetics.seen l.pass);
  room : length l.buffer ≡ 1024;
  scratch : 9 * length l.numbers ≤ length l.scratch;
  line : (clusters : List (List ℕ)) → Represents (g.T.Synthetics.seen l.fn.pass).known l.numbers clusters
      → l.output ≡ l.fn.output ++ flat_map shown_with_space (take l.at clusters);
}

abbrev pub decreases-showing : goal.decreases-showing
decreases-showing g l = length l.numbers - l.at
