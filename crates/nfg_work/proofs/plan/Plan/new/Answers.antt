use Rattle.std.proofs.Common.{◌<◌, ◌≤◌, length, arith}
use Rattle.nfg_work.proofs.PlanMade.{planned_first, planned_next, planned_all}
use Rattle.nfg_work.proofs.plan.Plan.new.Goals as goal

pub planning-init : goal.planning-init
planning-init c =
    planned_first c.args.script.now (record { definitions = c.new.result; loads_before = c.new-2.result }) c.new-2.ensures.items c.new.ensures.items

pub planning-preserved : goal.planning-preserved
planning-preserved c =
    let within : c.planning.k < length c.args.script.now = omega (arith, c.planning-test.true, c.len-k-end.ensures) in
    planned_next c.args.script.now c.planning.k c.planning.loads c.loads_of-loads.result c.command-command.result c.planning.plan c.note.new.self within
    c.command-command.ensures c.planning.invariant c.in_ok-note.ensures.loads c.in_ok-note.ensures.definitions c.loads_of-loads.ensures

pub returns : goal.returns
returns c =
    let all : length c.args.script.now ≤ c.planning.k = omega (arith, c.planning-test.false, c.len-k-end.ensures) in
    planned_all c.args.script.now c.planning.k c.planning.loads c.planning.plan c.planning.invariant all
