use Rattle.nfg_syn.specs.SeenLaws.{Keeps-refl, Keeps-trans}
use Rattle.nfg_work.proofs.MetWorkers.{CountAlike-start, CountAlike-more, HasMet-start, HasMet-trans}
use Rattle.nfg_work.proofs.large.load_large.Goals as goal
use Rattle.std.proofs.Common.{◌*◌}

pub loading-init : goal.loading-init
loading-init g c =
    let seen = g.T.Synthetics.seen c.args.pass.now in
    record {
      table = c.requires.table;
      keeps = Keeps-refl seen;
      counted = CountAlike-start (c.args.others * 0) seen;
      met = HasMet-start c.args.script.now c.args.reads.now seen.known c.args.outcomes.now c.requires.outcomes;
    }

pub loading-preserved : goal.loading-preserved
loading-preserved g c =
    let first = g.T.Synthetics.seen c.args.pass.now in
    let old = g.T.Synthetics.seen c.loading.pass in
    let new = g.T.Synthetics.seen c.load_at.new.pass in
    let i = c.loading.invariant in
    let did = c.in_ok-load_at.ensures in
    record {
      table = did.table;
      keeps = Keeps-trans first old new i.keeps did.keeps;
      counted = CountAlike-more c.args.others c.loading.k first old new i.counted did.counted;
      met = HasMet-trans c.args.script.now c.args.reads.now first.known old.known new.known c.loading.outcomes c.load_at.new.outcomes i.met did.met;
    }

pub returns-in_err-load_at-clause-keeps : goal.returns-in_err-load_at-clause-keeps
returns-in_err-load_at-clause-keeps g c = Keeps-trans _ _ _ c.loading.invariant.keeps c.in_err-load_at.ensures.keeps
