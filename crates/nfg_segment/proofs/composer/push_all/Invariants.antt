use Rattle.std.proofs.Common.{◌≡◌, List, ℕ, take}
use Rattle.nfg_segment.specs.Given.{with_clusters, Grew}
use Rattle.nfg_segment.specs.Held.{Keeps, next_all, closed_all}
use Rattle.nfg_segment.proofs.composer.push_all.Given as goal

abbrev pub invariant-loop-c : goal.invariant-loop-c
invariant-loop-c g l = record {
  given : (cluster : List ℕ) → Keeps l.initial.open_cluster.now cluster
      → (Keeps l.open_cluster.now (next_all cluster (take l.c-index l.chars)))
      × (g.S.ClusterSink.given l.out ≡ with_clusters (g.S.ClusterSink.given l.initial.out) (closed_all cluster (take l.c-index l.chars)));
  marked : l.open_cluster.marked ≡ l.initial.open_cluster.marked;
  grew : Grew (g.S.ClusterSink.given l.initial.out) (g.S.ClusterSink.given l.out);
}
