use Rattle.std.proofs.Common.{◌≡◌, ◌≤◌, ◌+◌, ◌-◌, ◌*◌, ◌∙◌, length, sym, subst, arith}
use Rattle.std.proofs.Math.Nat.{mul-le-mul_left}
use Rattle.nfg_syn.specs.SeenLaws.{Keeps-trans}
use Rattle.nfg_work.specs.Workers.{HasMet}
use Rattle.nfg_work.proofs.LargeLoads.{CountAlike-level}
use Rattle.nfg_work.proofs.MetWorkers.{CountAlike-most, HasMet-trans, lent_back}
use Rattle.nfg_work.proofs.ahead.do_levels.Goals as goal

pub leveling-preserved : goal.leveling-preserved
leveling-preserved g c =
    let first = g.T.Synthetics.seen c.args.pass.now in
    let old = g.T.Synthetics.seen c.leveling.pass in
    let new = g.T.Synthetics.seen c.do_affordable.new.pass in
    let i = c.leveling.invariant in
    let did = c.in_ok-do_affordable.ensures in
    let list = c.leveling.list in
    let as_many : length c.do_affordable.new.outcomes ≡ length list.items = did.met.right.as_many ∙ sym i.met.right.as_many in
    let lent = lent_back list.len list.items c.do_affordable.new.outcomes as_many (omega (arith, list.ok.0)) in
    record {
      table = did.table;
      keeps = Keeps-trans first old new i.keeps did.keeps;
      counted = CountAlike-level ((c.args.workers - 1) * length c.args.script.now) c.args.workers c.leveling.level first old new i.counted did.counted;
      met = subst (HasMet c.args.script.now c.args.reads.now first.known new.known) (sym lent)
          (HasMet-trans c.args.script.now c.args.reads.now first.known old.known new.known list.items c.do_affordable.new.outcomes i.met did.met);
    }

pub returns-in_err-do_affordable-clause-keeps : goal.returns-in_err-do_affordable-clause-keeps
returns-in_err-do_affordable-clause-keeps g c = Keeps-trans _ _ _ c.leveling.invariant.keeps c.in_err-do_affordable.ensures.keeps

pub returns-clause-counted : goal.returns-clause-counted
returns-clause-counted g c =
    let workers = c.args.workers in
    let script = c.args.script.now in
    let loads = (workers - 1) * length script in
    let few : c.leveling.level ≤ length script = omega (arith, c.leveling.auto.level-end, c.len-level-end.ensures, c.in_ok-jobs.ensures.few) in
    let more = mul-le-mul_left {m = c.leveling.level} {n = length script} workers few in
    CountAlike-most (loads + workers * c.leveling.level) (loads + workers * length script) (g.T.Synthetics.seen c.args.pass.now) (g.T.Synthetics.seen c.leveling.pass)
    (omega (arith, more)) c.leveling.invariant.counted
