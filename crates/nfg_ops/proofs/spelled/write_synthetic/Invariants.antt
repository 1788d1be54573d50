use Rattle.std.proofs.Common.{◌≡◌, ◌≤◌, ℕ, List, Some, length, take}
use Rattle.nfg_syn.specs.Known.{text_at}
use Rattle.nfg_ops.specs.Reads.{HasAsked}
use Rattle.nfg_ops.proofs.spelled.write_synthetic.Given as goal

-- the first code points are written
abbrev pub invariant-loop-k : goal.invariant-loop-k
invariant-loop-k g l = record {
  table : g.T.Synthetics.is_of l.table l.pass;
  asked : HasAsked (g.T.Synthetics.seen l.fn.pass) (g.T.Synthetics.seen l.pass);
  room : length l.into ≡ length l.fn.into;
  fits : l.count ≤ length l.into;
  written : (cluster : List ℕ) → text_at (g.T.Synthetics.seen l.fn.pass).known l.n ≡ Some cluster
      → (l.count ≡ length cluster) × (take l.k l.into ≡ take l.k cluster);
}
