use Rattle.std.proofs.Common.{◌≡◌, ◌≤◌, ℕ, List, true, length, drop}
use Rattle.std.specs.List.{list_all}
use Rattle.nfg_syn.specs.Represents.{Represents}
use Rattle.nfg_seam.specs.SeamReads.{HasAsked, is_unsafe}
use Rattle.nfg_seam.proofs.left_end.left_end.Given as goal

-- no cluster from the place on begins safely
abbrev pub invariant-loop-left : goal.invariant-loop-left
invariant-loop-left g l = record {
  within : l.left ≤ length l.a.graphemes;
  table : g.T.Synthetics.is_of l.table l.pass;
  asked : HasAsked (g.T.Synthetics.seen l.fn.pass) (g.T.Synthetics.seen l.pass);
  none : (list : List (List ℕ)) → Represents (g.T.Synthetics.seen l.fn.pass).known l.a.graphemes list → list_all is_unsafe (drop l.left list) ≡ true;
}

abbrev pub decreases-loop-left : goal.decreases-loop-left
decreases-loop-left g l = l.left
