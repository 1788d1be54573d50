use Rattle.std.proofs.Common.{◌<◌, length, arith, refl, sym, subst}
use Rattle.nfg_work.specs.Outcomes.{AreRight}
use Rattle.nfg_work.proofs.Answered.{command_at, line_at}
use Rattle.nfg_work.proofs.InOrder.{answering_first, answering_next, answering_stopped, outcome_right}
use Rattle.nfg_work.proofs.Outcomes.{AreRight-taken}
use Rattle.nfg_work.proofs.in_order.answer_in_order.Goals as goal

pub answering-init : goal.answering-init
answering-init g c = record {
  table = c.requires.table;
  far = answering_first (g.T.Synthetics.size c.args.table.now) c.args.script.now c.args.reads.now (g.T.Synthetics.seen c.args.pass.now) _ c.args.outcomes.items c.requires.outcomes
      c.new.ensures.items refl c.new-2.ensures refl;
}

pub returns-in-Err-clause-answered : goal.returns-in-Err-clause-answered
returns-in-Err-clause-answered g c =
    let r = c.answering.invariant.far in
    let places = g.T.Synthetics.size c.args.table.now in
    let start = g.T.Synthetics.seen c.args.pass.now in
    let old = g.T.Synthetics.seen c.answering.pass in
    let new = g.T.Synthetics.seen c.step.new.pass in
    let within : c.answering.k < length c.args.script.now = omega (arith, c.answering-test.true, c.len-k-end.ensures) in
    let at = command_at c.args.script.now c.answering.k within in
    let taken = c.take_outcome-outcome.ensures.taken in
    let right = outcome_right places c.args.script.now c.args.reads.now start old c.answering.held c.answering.outcomes.items c.answering.k at.0 c.take_outcome-outcome.result r at.1 taken in
    answering_stopped places c.args.script.now c.args.reads.now start old new c.answering.held c.step.new.held c.answering.outcomes.items c.answering.k at.0 c.in-Err.stop c.line.result r c.stopped.result
    at.1 (line_at c.args.script.now c.answering.k c.line.result at.0 at.1 c.line.ensures) (g.met.T.Synthetics.knows c.args.table.now c.step.new.pass c.in-Err.ensures.table) c.in-Err.ensures.keeps
    (c.in-Err.ensures.done at.0 r.state at.1 r.holds right) (c.in-Err.ensures.brings at.0 r.state at.1 r.holds right) c.stopped.ensures

pub answering-preserved : goal.answering-preserved
answering-preserved g c =
    let r = c.answering.invariant.far in
    let places = g.T.Synthetics.size c.args.table.now in
    let start = g.T.Synthetics.seen c.args.pass.now in
    let old = g.T.Synthetics.seen c.answering.pass in
    let new = g.T.Synthetics.seen c.step.new.pass in
    let within : c.answering.k < length c.args.script.now = omega (arith, c.answering-test.true, c.len-k-end.ensures) in
    let at = command_at c.args.script.now c.answering.k within in
    let taken = c.take_outcome-outcome.ensures.taken in
    let right = outcome_right places c.args.script.now c.args.reads.now start old c.answering.held c.answering.outcomes.items c.answering.k at.0 c.take_outcome-outcome.result r at.1 taken in
    let left = subst (AreRight old.known c.args.script.now c.args.reads.now) (sym c.take_outcome-outcome.ensures.left)
    (AreRight-taken old.known c.args.script.now c.args.reads.now c.answering.outcomes.items c.answering.k r.right) in
    record {
      table = c.in-Ok.ensures.table;
      far = answering_next places c.args.script.now c.args.reads.now start old new c.answering.held c.step.new.held c.answering.outcomes.items _ c.answering.k at.0 r at.1
          (g.met.T.Synthetics.knows c.args.table.now c.step.new.pass c.in-Ok.ensures.table) c.in-Ok.ensures.keeps c.in-Ok.ensures.counts left
          (c.in-Ok.ensures.done at.0 r.state at.1 r.holds right) (c.in-Ok.ensures.brings at.0 r.state at.1 r.holds right);
    }
