use Rattle.std.proofs.Common.{◌≡◌, ◌+◌, ◌<◌, ◌≤◌, List, ℕ, take, length}
use Rattle.nfg_segment.specs.Given.{with_clusters, Grew}
use Rattle.nfg_segment.specs.Held.{Keeps, next_all, closed_all}
use Rattle.nfg_segment.specs.Reach.{Reaches}
use Rattle.nfg_segment.proofs.open_reach.pass_open.Given as goal

abbrev pub invariant-loop-at : goal.invariant-loop-at
invariant-loop-at g l = record {
  given : (cluster : List ℕ) → Keeps l.initial.open_cluster.now cluster
      → (Reaches l.open_cluster.now l.text l.at l.reach (next_all cluster (take l.at l.text)))
      × (g.S.ClusterSink.given l.out ≡ with_clusters (g.S.ClusterSink.given l.initial.out) (closed_all cluster (take l.at l.text)));
  start : l.reach.start ≤ l.at;
  below : l.reach.start < length l.text;
  near : l.reach.start + 1 < l.at → 0 < length l.open_cluster.now.head;
  marked : l.open_cluster.marked ≡ l.initial.open_cluster.marked;
  grew : Grew (g.S.ClusterSink.given l.initial.out) (g.S.ClusterSink.given l.out);
}
