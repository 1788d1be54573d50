use Rattle.nfg_syn.specs.SeenLaws.{Keeps-refl, Keeps-trans, SameCounts-refl, SameCounts-trans}
use Rattle.nfg_work.proofs.RightOutcomes.{AreRight-grows}
use Rattle.nfg_work.proofs.MetWorkers.{HasGiven-start, HasGiven-trans}
use Rattle.nfg_work.proofs.worker.do_share.Goals as goal

pub sharing-init : goal.sharing-init
sharing-init g c =
    let seen = g.T.Synthetics.seen c.args.pass.now in
    record {
      table = c.requires.table;
      keeps = Keeps-refl seen;
      counts = SameCounts-refl seen;
      given = HasGiven-start c.args.work.script.now c.args.work.reads.now seen.known c.args.given.now.items c.requires.given;
    }

pub do_one-requires-clause-outcomes : goal.do_one-requires-clause-outcomes
do_one-requires-clause-outcomes g c κs within =
    AreRight-grows (g.T.Synthetics.seen c.args.pass.now).known (g.T.Synthetics.seen c.sharing.pass).known c.sharing.invariant.keeps.known
    c.args.work.script.now c.args.work.reads.now c.args.work.outcomes.now c.requires.outcomes

pub sharing-preserved : goal.sharing-preserved
sharing-preserved g c =
    let old = g.T.Synthetics.seen c.args.pass.now in
    let mid = g.T.Synthetics.seen c.sharing.pass in
    let new = g.T.Synthetics.seen c.do_one.new.pass in
    let i = c.sharing.invariant in
    record {
      table = c.in_ok-do_one.ensures.table;
      keeps = Keeps-trans old mid new i.keeps c.in_ok-do_one.ensures.keeps;
      counts = SameCounts-trans old mid new i.counts c.in_ok-do_one.ensures.counts;
      given = HasGiven-trans c.args.work.script.now c.args.work.reads.now old.known mid.known new.known _ _ i.given c.in_ok-do_one.ensures.given;
    }

pub returns-in_err-do_one-clause-keeps : goal.returns-in_err-do_one-clause-keeps
returns-in_err-do_one-clause-keeps g c = Keeps-trans _ _ _ c.sharing.invariant.keeps c.in_err-do_one.ensures.keeps

pub returns-in_err-do_one-clause-counts : goal.returns-in_err-do_one-clause-counts
returns-in_err-do_one-clause-counts g c = SameCounts-trans _ _ _ c.sharing.invariant.counts c.in_err-do_one.ensures.counts
