use Rattle.std.proofs.Common.{◌≡◌, ◌≤◌, ◌++◌, ◌-◌, ℕ, List, length, drop, reverse, slice_range}
use Rattle.nfg_syn.specs.Represents.{Represents}
use Rattle.nfg_text.specs.Breaks.{Remembers}
use Rattle.nfg_text.specs.Text.{text_of}
use Rattle.nfg_seam.specs.SeamReads.{HasAsked}
use Rattle.nfg_seam.proofs.right_end.append_to_boundary.Given as goal

abbrev pub invariant-loop-right : goal.invariant-loop-right
invariant-loop-right g l = record {
  later : l.fn.start ≤ l.right;
  within : l.right ≤ length l.b.graphemes;
  numbers : l.numbers ≡ drop l.right l.b.graphemes;
  table : g.T.Synthetics.is_of l.table l.pass;
  asked : HasAsked (g.T.Synthetics.seen l.fn.pass) (g.T.Synthetics.seen l.pass);
  memory : Remembers l.memory (reverse l.text);
  added : (list : List (List ℕ)) → Represents (g.T.Synthetics.seen l.fn.pass).known l.b.graphemes list
      → l.text ≡ l.fn.text ++ text_of (slice_range list l.fn.start l.right);
}

abbrev pub decreases-loop-right : goal.decreases-loop-right
decreases-loop-right g l = length l.b.graphemes - l.right
