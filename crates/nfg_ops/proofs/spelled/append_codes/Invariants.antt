use Rattle.std.proofs.Common.{◌≡◌, ◌≤◌, ◌-◌, ◌++◌, ℕ, List, slice_range}
use Rattle.nfg_text.specs.Text.{text_of}
use Rattle.nfg_syn.specs.Represents.{Represents}
use Rattle.nfg_ops.specs.Reads.{HasAsked}
use Rattle.nfg_ops.proofs.spelled.append_codes.Given as goal

-- the text of what is before the place is added
abbrev pub invariant-loop-place : goal.invariant-loop-place
invariant-loop-place g l = record {
  low : l.start ≤ l.place;
  high : l.place ≤ l.end;
  table : g.T.Synthetics.is_of l.table l.pass;
  asked : HasAsked (g.T.Synthetics.seen l.fn.pass) (g.T.Synthetics.seen l.pass);
  added : (list : List (List ℕ)) → Represents (g.T.Synthetics.seen l.fn.pass).known l.a.graphemes list
      → l.into ≡ l.fn.into ++ text_of (slice_range list l.start l.place);
}

abbrev pub decreases-loop-place : goal.decreases-loop-place
decreases-loop-place g l = l.end - l.place
