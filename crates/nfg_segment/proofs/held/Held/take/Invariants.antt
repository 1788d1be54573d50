use Rattle.std.proofs.Common.{◌≡◌, ◌≤◌, ◌-◌, List, ℕ, ◌++◌, take, length}
use Rattle.nfg_segment.specs.Follows.{Follows}
use Rattle.nfg_segment.specs.Given.{with_clusters, Grew}
use Rattle.nfg_segment.proofs.held.Held.take.Given as goal

abbrev pub invariant-loop-at : goal.invariant-loop-at
invariant-loop-at g l = record {
  follows : (fed : List ℕ) (given : List (List ℕ)) → Follows l.initial.self.now fed given
      → (more : List (List ℕ)) × (Follows l.self.now (fed ++ take l.at l.text) (given ++ more))
      × (g.S.ClusterSink.given l.out ≡ with_clusters (g.S.ClusterSink.given l.initial.out) more);
  marked : l.self.marked ≡ l.initial.self.marked;
  grew : Grew (g.S.ClusterSink.given l.initial.out) (g.S.ClusterSink.given l.out);
  within : l.at ≤ length l.text;
}

abbrev pub decreases-loop-at : goal.decreases-loop-at
decreases-loop-at g l = length l.text - l.at
