use Rattle.std.proofs.Common.{◌≡◌, length, take}
use Rattle.nfg_syn.specs.Seen.{Keeps, SameCounts}
use Rattle.nfg_seam.specs.Numbered.{AreNumbered}
use Rattle.nfg_seam.proofs.repeated_text.number_each.Given as goal

abbrev pub invariant-numbering : goal.invariant-numbering
invariant-numbering g l = record {
  count : length l.into ≡ length l.fn.into;
  table : g.T.Synthetics.is_of l.table l.pass;
  keeps : Keeps (g.T.Synthetics.seen l.fn.pass) (g.T.Synthetics.seen l.pass);
  counts : SameCounts (g.T.Synthetics.seen l.fn.pass) (g.T.Synthetics.seen l.pass);
  numbered : AreNumbered (take l.k l.clusters.heads) (g.T.Synthetics.seen l.fn.pass).known (g.T.Synthetics.seen l.pass).known (take l.k l.into);
}
