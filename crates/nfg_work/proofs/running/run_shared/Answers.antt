use Rattle.std.proofs.Common.{◌≡◌, ◌≢◌, None, length, ap, subst}
use Rattle.nfg_syn.specs.SeenLaws.{Keeps-trans}
use Rattle.nfg_work.proofs.SharedRuns.{answer_none, counted_behind}
use Rattle.nfg_work.proofs.running.run_shared.Goals as goal

pub returns-then-len-eq0-clause-answered : goal.returns-then-len-eq0-clause-answered
returns-then-len-eq0-clause-answered g c =
    let none : length c.args.script.now ≡ 0 = cc (c.len.ensures, c.if-len-eq0.true) in
    answer_none (g.T.Synthetics.size c.args.table.now) c.args.script.now c.args.reads.now (g.T.Synthetics.seen c.args.pass.now) _ none
    (ap (λ bytes. record { bytes = bytes; refused = None }) c.new.ensures)

pub returns-in-Ok-clause-keeps : goal.returns-in-Ok-clause-keeps
returns-in-Ok-clause-keeps g c =
    Keeps-trans (g.T.Synthetics.seen c.args.pass.now) (g.T.Synthetics.seen c.do_levels.new.pass) (g.T.Synthetics.seen c.answer_shared.new.pass)
    c.in-Ok.ensures.keeps c.answer_shared.ensures.keeps

pub returns-in-Ok-clause-counted : goal.returns-in-Ok-clause-counted
returns-in-Ok-clause-counted g c =
    let many : length c.args.script.now ≢ 0 = subst (λ n. n ≢ 0) c.len.ensures c.if-len-eq0.false in
    counted_behind c.args.workers (length c.args.script.now) (g.T.Synthetics.seen c.args.pass.now) (g.T.Synthetics.seen c.do_levels.new.pass)
    (g.T.Synthetics.seen c.answer_shared.new.pass) c.answer_shared.result c.requires.at_least many c.in-Ok.ensures.counted c.answer_shared.ensures.counts
