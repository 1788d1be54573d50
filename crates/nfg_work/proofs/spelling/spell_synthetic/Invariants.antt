use Rattle.std.proofs.Common.{◌≡◌, ℕ, List, take, length, Some}
use Rattle.nfg_syn.specs.Known.{text_at}
use Rattle.nfg_ops.specs.Reads.{HasAsked}
use Rattle.nfg_work.proofs.spelling.spell_synthetic.Given as goal

abbrev pub invariant-spelling : goal.invariant-spelling
invariant-spelling g l = record {
  table : g.T.Synthetics.is_of l.table l.pass;
  asked : HasAsked (g.T.Synthetics.seen l.fn.pass) (g.T.Synthetics.seen l.pass);
  room : length l.buffer ≡ 1024;
  spelled : (cluster : List ℕ) → text_at (g.T.Synthetics.seen l.fn.pass).known l.n ≡ Some cluster
      → take l.k l.buffer ≡ take l.k cluster;
}
