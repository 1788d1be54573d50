use Rattle.std.proofs.Common.{◌≡◌, ◌++◌, ℕ, List, Some, take}
use Rattle.nfg_syn.specs.Known.{IsSame, text_at}
use Rattle.nfg_syn.specs.Seen.{Keeps, SameCounts}
use Rattle.nfg_syn.proofs.spelling.append_synthetic.Given as goal

abbrev pub invariant-loop-k : goal.invariant-loop-k
invariant-loop-k g l = record {
  table : g.T.Synthetics.is_of l.table l.pass;
  keeps : Keeps (g.T.Synthetics.seen l.fn.pass) (g.T.Synthetics.seen l.pass);
  counts : SameCounts (g.T.Synthetics.seen l.fn.pass) (g.T.Synthetics.seen l.pass);
  known : IsSame (g.T.Synthetics.seen l.fn.pass).known (g.T.Synthetics.seen l.pass).known;
  added : (cluster : List ℕ) → text_at (g.T.Synthetics.seen l.fn.pass).known l.fn.n ≡ Some cluster → l.into ≡ l.fn.into ++ take l.k cluster;
}
