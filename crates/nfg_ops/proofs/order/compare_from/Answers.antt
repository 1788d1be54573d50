-- both walks take a step
use Rattle.std.proofs.Common.{refl, sym, ◌∙◌}
use Rattle.nfg_ops.proofs.Asked.{asked-none, asked-both}
use Rattle.nfg_ops.proofs.Spelling.{Represents-same_known, Represents-same_back}
use Rattle.nfg_ops.proofs.Walking.{inside-start}
use Rattle.nfg_ops.proofs.order.compare_from.Goals as goal

pub loop-order-init : goal.loop-order-init
loop-order-init g c =
    let knows = g.met.T.Synthetics.knows c.args.table.now c.args.pass.now c.requires.table in
    record {
      table = c.requires.table;
      asked = asked-none (g.T.Synthetics.seen c.args.pass.now);
      inside = λ list represents. inside-start _ _ _ knows c.args.a.now.graphemes list represents c.args.place c.requires.inside;
      other_inside = λ list represents. inside-start _ _ _ knows c.args.b.now.graphemes list represents c.args.place c.requires.other_inside;
      order = λ left right represents other_represents. refl;
    }

pub next_code-first-requires-clause-inside : goal.next_code-first-requires-clause-inside
next_code-first-requires-clause-inside g c κs within = λ list represents.
    c.loop-order.invariant.inside list (Represents-same_back _ _ c.loop-order.invariant.asked.known c.args.a.now.graphemes list represents)

pub next_code-second-requires-clause-inside : goal.next_code-second-requires-clause-inside
next_code-second-requires-clause-inside g c κs within = λ list represents.
    let asked = asked-both _ _ _ c.loop-order.invariant.asked c.next_code-first.ensures.asked in
    c.loop-order.invariant.other_inside list (Represents-same_back _ _ asked.known c.args.b.now.graphemes list represents)

pub returns-in-Some-clause-order : goal.returns-in-Some-clause-order
returns-in-Some-clause-order g c = λ left right represents other_represents.
    let asked = asked-both _ _ _ c.loop-order.invariant.asked c.next_code-first.ensures.asked in
    let first = c.next_code-first.ensures.taken left (Represents-same_known _ _ c.loop-order.invariant.asked.known c.args.a.now.graphemes left represents) in
    let second = c.next_code-second.ensures.taken right (Represents-same_known _ _ asked.known c.args.b.now.graphemes right other_represents) in
    c.in-Some.ensures.decided _ _ _ _ first second ∙ sym (c.loop-order.invariant.order left right represents other_represents)

pub loop-order-preserved : goal.loop-order-preserved
loop-order-preserved g c =
    let asked = asked-both _ _ _ c.loop-order.invariant.asked c.next_code-first.ensures.asked in
    record {
      table = c.next_code-second.ensures.table;
      asked = asked-both _ _ _ asked c.next_code-second.ensures.asked;
      inside = λ list represents.
          c.next_code-first.ensures.inside list (Represents-same_known _ _ c.loop-order.invariant.asked.known c.args.a.now.graphemes list represents);
      other_inside = λ list represents.
          c.next_code-second.ensures.inside list (Represents-same_known _ _ asked.known c.args.b.now.graphemes list represents);
      order = λ left right represents other_represents.
          let first = c.next_code-first.ensures.taken left (Represents-same_known _ _ c.loop-order.invariant.asked.known c.args.a.now.graphemes left represents) in
          let second = c.next_code-second.ensures.taken right (Represents-same_known _ _ asked.known c.args.b.now.graphemes right other_represents) in
          c.loop-order.invariant.order left right represents other_represents ∙ c.in-None.ensures.decided _ _ _ _ first second;
    }
