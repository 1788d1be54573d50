use Rattle.std.proofs.Common.{◌≡◌, ◌*◌, ◌-◌, ◌≤◌, ℕ, List, take, length}
use Rattle.std.specs.List.{flat_map}
use Rattle.nfg_syn.specs.Known.{Texts}
use Rattle.nfg_syn.specs.Represents.{Represents}
use Rattle.nfg_work.specs.Separated.{shown_with_space}
use Rattle.nfg_work.proofs.printing.fill_run.Given as goal

abbrev pub invariant-filling : goal.invariant-filling
invariant-filling l = record {
  count : l.count ≤ length l.numbers;
  len : l.len ≤ 9 * l.count;
  shown : (known : Texts) (clusters : List (List ℕ)) → Represents known l.numbers clusters
      → take l.len l.scratch ≡ flat_map shown_with_space (take l.count clusters);
}

abbrev pub decreases-filling : goal.decreases-filling
decreases-filling l = length l.numbers - l.count
