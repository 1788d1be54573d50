use Rattle.std.proofs.Common.{◌≡◌, ◌≤◌, ◌++◌, ◌-◌, ℕ, List, length, take}
use Rattle.nfg_syn.specs.Represents.{Represents}
use Rattle.nfg_text.specs.Text.{text_of}
use Rattle.nfg_seam.specs.SeamReads.{HasAsked}
use Rattle.nfg_seam.proofs.seam.append_to_safe_start.Given as goal

abbrev pub invariant-loop-place : goal.invariant-loop-place
invariant-loop-place g l = record {
  within : l.place ≤ length l.b.graphemes;
  table : g.T.Synthetics.is_of l.table l.pass;
  asked : HasAsked (g.T.Synthetics.seen l.fn.pass) (g.T.Synthetics.seen l.pass);
  added : (list : List (List ℕ)) → Represents (g.T.Synthetics.seen l.fn.pass).known l.b.graphemes list
      → l.into ≡ l.fn.into ++ text_of (take l.place list);
}

abbrev pub decreases-loop-place : goal.decreases-loop-place
decreases-loop-place g l = length l.b.graphemes - l.place
