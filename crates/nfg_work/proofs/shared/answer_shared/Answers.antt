use Rattle.std.proofs.Common.{subst, sym}
use Rattle.nfg_work.specs.Sharing.{IsSharedAnswer, MeetsOne}
use Rattle.nfg_work.proofs.Sharing.{IsWay, fork_right, way_answer, way_meets}
use Rattle.nfg_work.proofs.shared.answer_shared.Given.{Over}
use Rattle.nfg_work.proofs.shared.answer_shared.Goals as goal
use Rattle.nfg_work.proofs.shared.answer_shared.Goals.{After-told}

pub answer_in_order-answered-requires-clause-outcomes : goal.answer_in_order-answered-requires-clause-outcomes
answer_in_order-answered-requires-clause-outcomes g c κs within =
    fork_right c.args.script.now c.args.reads.now (g.T.Synthetics.seen c.args.pass.now) (g.T.Synthetics.seen c.in-Ok.fork) c.args.outcomes.items c.in-Ok.ensures.forked c.requires.outcomes

-- the way of the fork
met : (g : Over) (c : After-told g)
    → IsWay (g.T.Synthetics.seen c.args.pass.now) (g.T.Synthetics.seen c.fork.new.pass) (g.T.Synthetics.seen c.in-Ok.fork)
    (g.T.Synthetics.seen c.answer_in_order-answered.new.pass.pass) (g.T.Synthetics.seen c.meet.new.into)
met g c = record {
  same = c.in-Ok.ensures.known;
  forked = c.in-Ok.ensures.forked;
  kept = c.answer_in_order-answered.ensures.keeps.known;
  meets = c.answer_in_order-answered.ensures.counts.meets;
  mid_forks = c.in-Ok.ensures.counted;
  mid_meets = c.in-Ok.ensures.meets;
  met = c.in-Ok-meet.ensures.met;
  new_forks = c.in-Ok-meet.ensures.forks;
}

pub returns-in-Ok-meet-clause-answered : goal.returns-in-Ok-meet-clause-answered
returns-in-Ok-meet-clause-answered g c =
    let old = g.T.Synthetics.seen c.args.pass.now in
    let new = g.T.Synthetics.seen c.meet.new.into in
    let noting = c.answer_in_order-answered.new.pass in
    subst (IsSharedAnswer (g.T.Synthetics.size c.args.table.now) c.args.script.now c.args.reads.now old new) (sym c.told.ensures)
    (way_answer (g.T.Synthetics.size c.args.table.now) c.args.script.now c.args.reads.now old (g.T.Synthetics.seen c.fork.new.pass) (g.T.Synthetics.seen c.in-Ok.fork) (g.T.Synthetics.seen noting.pass) new
    c.new.result noting.refused c.answer_in_order-answered.result (met g c) c.answer_in_order-answered.ensures.answered)

pub returns-in-Ok-meet-clause-counts : goal.returns-in-Ok-meet-clause-counts
returns-in-Ok-meet-clause-counts g c =
    let old = g.T.Synthetics.seen c.args.pass.now in
    let new = g.T.Synthetics.seen c.meet.new.into in
    let noting = c.answer_in_order-answered.new.pass in
    subst (MeetsOne old new) (sym c.told.ensures)
    (way_meets old (g.T.Synthetics.seen c.fork.new.pass) (g.T.Synthetics.seen c.in-Ok.fork) (g.T.Synthetics.seen noting.pass) new noting.refused c.answer_in_order-answered.result (met g c))
