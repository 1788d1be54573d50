use Rattle.std.proofs.Common.{◌≡◌, ◌≤◌, ◌++◌, ◌-◌, ℕ, List, length, drop}
use Rattle.nfg_syn.specs.Represents.{Represents}
use Rattle.nfg_text.specs.Text.{text_of}
use Rattle.nfg_seam.specs.SeamReads.{HasAsked}
use Rattle.nfg_seam.proofs.seam.append_from.Given as goal

-- the text that is added and the text that is left are the whole
abbrev pub invariant-loop-place : goal.invariant-loop-place
invariant-loop-place g l = record {
  within : l.place ≤ length l.a.graphemes;
  table : g.T.Synthetics.is_of l.table l.pass;
  asked : HasAsked (g.T.Synthetics.seen l.fn.pass) (g.T.Synthetics.seen l.pass);
  added : (list : List (List ℕ)) → Represents (g.T.Synthetics.seen l.fn.pass).known l.a.graphemes list
      → l.into ++ text_of (drop l.place list) ≡ l.fn.into ++ text_of (drop l.fn.start list);
}

abbrev pub decreases-loop-place : goal.decreases-loop-place
decreases-loop-place g l = length l.a.graphemes - l.place
