use Rattle.std.proofs.Common.{◌≡◌, ℕ, List, drop, length}
use Rattle.std.specs.Cmp.Lexicographic.{slice_cmp}
use Rattle.std.specs.Ordering.{nat_cmp}
use Rattle.nfg_text.specs.Operations.{text_order}
use Rattle.nfg_syn.specs.Represents.{Represents}
use Rattle.nfg_ops.specs.Reads.{HasAsked}
use Rattle.nfg_ops.specs.Walk.{text_from, IsInside, steps_left}
use Rattle.nfg_ops.proofs.order.compare_from.Given as goal

-- the order is that of what is left
abbrev pub invariant-loop-order : goal.invariant-loop-order
invariant-loop-order g l = record {
  table : g.T.Synthetics.is_of l.table l.pass;
  asked : HasAsked (g.T.Synthetics.seen l.fn.pass) (g.T.Synthetics.seen l.pass);
  inside : (list : List (List ℕ)) → Represents (g.T.Synthetics.seen l.fn.pass).known l.a.graphemes list → IsInside list l.left;
  other_inside : (list : List (List ℕ)) → Represents (g.T.Synthetics.seen l.fn.pass).known l.b.graphemes list → IsInside list l.right;
  order : (left right : List (List ℕ)) → Represents (g.T.Synthetics.seen l.fn.pass).known l.a.graphemes left
      → Represents (g.T.Synthetics.seen l.fn.pass).known l.b.graphemes right
      → text_order (drop l.place left) (drop l.place right) ≡ slice_cmp nat_cmp (text_from left l.left) (text_from right l.right);
}

abbrev pub decreases-loop-order : goal.decreases-loop-order
decreases-loop-order g l = steps_left (length l.a.graphemes) l.left
