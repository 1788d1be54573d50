use Rattle.std.proofs.Common.{◌≡◌, ap, arith, length, ◌∙◌, rules}
use Rattle.nfg_work.specs.Levels.{levels}
use Rattle.nfg_work.proofs.Leveled.{length-levels}
use Rattle.nfg_work.proofs.level_jobs.jobs_by_level.Goals as goal

pub bounds-levels-k : goal.bounds-levels-k
bounds-levels-k c =
    let levels_are : c.as_slice-levels.result.now ≡ levels c.args.script.now = c.as_slice-levels.ensures ∙ c.in_ok-list.ensures in
    omega (arith, ap length levels_are, length-levels c.args.script.now, c.listing-test.true, c.len-k-end.ensures)

pub offset_bounds-levels-k : goal.offset_bounds-levels-k
offset_bounds-levels-k c =
    let levels_are : c.as_slice-levels.result.now ≡ levels c.args.script.now = c.as_slice-levels.ensures ∙ c.in_ok-list.ensures in
    let same = length-levels c.args.script.now in
    let as_many = ap length levels_are in
    search rules
