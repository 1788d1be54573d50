use Rattle.nfg_work.proofs.InOrder.{IsAnswering}
use Rattle.nfg_work.proofs.in_order.answer_in_order.Given as goal

abbrev pub invariant-answering : goal.invariant-answering
invariant-answering g l = record {
  table : g.T.Synthetics.is_of l.table l.pass;
  far : IsAnswering (g.T.Synthetics.size l.table) l.script l.reads (g.T.Synthetics.seen l.fn.pass) (g.T.Synthetics.seen l.pass) l.held l.outcomes.items l.k;
}
