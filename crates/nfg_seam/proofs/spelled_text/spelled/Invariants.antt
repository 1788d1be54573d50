use Rattle.std.proofs.Common.{◌≡◌, ℕ, List, take}
use Rattle.nfg_text.specs.Text.{text_of}
use Rattle.nfg_syn.specs.Known.{IsSame}
use Rattle.nfg_syn.specs.Represents.{Represents}
use Rattle.nfg_syn.specs.Seen.{Keeps, SameCounts}
use Rattle.nfg_seam.proofs.spelled_text.spelled.Given as goal

abbrev pub invariant-spelling : goal.invariant-spelling
invariant-spelling g l = record {
  table : g.T.Synthetics.is_of l.table l.pass;
  keeps : Keeps (g.T.Synthetics.seen l.fn.pass) (g.T.Synthetics.seen l.pass);
  counts : SameCounts (g.T.Synthetics.seen l.fn.pass) (g.T.Synthetics.seen l.pass);
  known : IsSame (g.T.Synthetics.seen l.fn.pass).known (g.T.Synthetics.seen l.pass).known;
  codes : (clusters : List (List ℕ)) → Represents (g.T.Synthetics.seen l.fn.pass).known l.numbers clusters → l.codes ≡ text_of (take l.k clusters);
}
