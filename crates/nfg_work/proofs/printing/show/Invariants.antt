use Rattle.std.proofs.Common.{◌≡◌, ◌+◌, ◌-◌, ℕ, List, ◌++◌, take, drop, length}
use Rattle.std.specs.List.{flat_map}
use Rattle.nfg_ops.specs.Reads.{HasAsked}
use Rattle.nfg_syn.specs.Represents.{Represents}
use Rattle.nfg_work.specs.Separated.{shown_with_space}
use Rattle.nfg_work.proofs.printing.show.Given as goal

abbrev pub invariant-showing : goal.invariant-showing
invariant-showing g l = record {
  rest : l.at + length l.left ≡ l.len;
  left : l.left ≡ drop l.at l.string.graphemes;
  numbers : length l.numbers ≡ 256;
  room : length l.buffer ≡ 1024;
  scratch : length l.scratch ≡ 2304;
  table : g.T.Synthetics.is_of l.table l.pass;
  asked : HasAsked (g.T.Synthetics.seen l.fn.pass) (g.T.Synthetics.seen l.pass);
  line : (clusters : List (List ℕ)) → Represents (g.T.Synthetics.seen l.fn.pass).known l.string.graphemes clusters
      → l.output ≡ l.fn.output ++ flat_map shown_with_space (take l.at clusters);
}

abbrev pub decreases-showing : goal.decreases-showing
decreases-showing g l = l.len - l.at
