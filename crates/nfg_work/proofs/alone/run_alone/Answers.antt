use Rattle.std.proofs.Common.{◌<◌, length, arith, refl, subst, Ok, Err}
use Rattle.nfg_syn.specs.OwnTexts.{IsOwnPass, seen_of}
use Rattle.nfg_work.specs.declared.evaluation.Evaluation.{Evaluation}
use Rattle.nfg_work.specs.Evaluation.{step}
use Rattle.nfg_work.specs.Holding.{Follows}
use Rattle.nfg_work.proofs.Answered.{running_first, running_next, ended_is, command_at, line_at, texts-first}
use Rattle.nfg_work.proofs.alone.run_alone.Goals as goal

pub running-init : goal.running-init
running-init c =
    let held : Evaluation = record { strings = c.new-2.result; spent = 0; output = c.new-3.result; next_read = 0 } in
    running_first c.args.n c.args.script.now c.args.reads.now c.in_ok-table.pass held c.in_ok-table.ensures.pass (texts-first c.in_ok-table.pass c.in_ok-table.ensures.first)
    c.new-2.ensures.items refl c.new-3.ensures refl

pub returns-in-Err : goal.returns-in-Err
returns-in-Err c =
    let r = c.running.invariant in
    let size = c.in_ok-table.ensures.table in
    let within : c.running.k < length c.args.script.now = omega (arith, c.running-test.true, c.len-k-end.ensures) in
    let at = command_at c.args.script.now c.running.k within in
    let own = subst (λ n. IsOwnPass n c.step.new.pass) size c.in-Err.ensures.table in
    let f = subst (λ n. Follows n (seen_of c.running.pass) (seen_of c.step.new.pass) c.args.reads.now r.state.used c.running.held c.step.new.held (Err c.in-Err.stop) (step n r.state at.0 at.0.command)) size
    (c.in-Err.ensures.done at.0 r.state at.1 r.holds tt) in
    ended_is c.args.n c.args.script.now c.args.reads.now c.running.pass c.step.new.pass c.running.held c.step.new.held c.running.k at.0 c.in-Err.stop c.line.result r c.ended.result
    at.1 (line_at c.args.script.now c.running.k c.line.result at.0 at.1 c.line.ensures) own f c.ended.ensures

pub running-preserved : goal.running-preserved
running-preserved c =
    let r = c.running.invariant in
    let size = c.in_ok-table.ensures.table in
    let within : c.running.k < length c.args.script.now = omega (arith, c.running-test.true, c.len-k-end.ensures) in
    let at = command_at c.args.script.now c.running.k within in
    let own = subst (λ n. IsOwnPass n c.step.new.pass) size c.in-Ok.ensures.table in
    let f = subst (λ n. Follows n (seen_of c.running.pass) (seen_of c.step.new.pass) c.args.reads.now r.state.used c.running.held c.step.new.held (Ok tt) (step n r.state at.0 at.0.command)) size
    (c.in-Ok.ensures.done at.0 r.state at.1 r.holds tt) in
    running_next c.args.n c.args.script.now c.args.reads.now c.running.pass c.step.new.pass c.running.held c.step.new.held c.running.k at.0 r at.1 own f
