use Rattle.nfg_segment.specs.Given.{Grew}
use Rattle.nfg_segment.proofs.Marked.{IsCutTo}
use Rattle.nfg_segment.proofs.marked_run.give_marked.Given as goal

abbrev pub invariant-loop-at : goal.invariant-loop-at
invariant-loop-at g l = record {
  cut : IsCutTo l.text (g.S.ClusterSink.given l.initial.out) (g.S.ClusterSink.given l.out) l.begun.row l.begun.start l.at;
  grew : Grew (g.S.ClusterSink.given l.initial.out) (g.S.ClusterSink.given l.out);
}
