use Rattle.std.proofs.Common.{◌≡◌, ◌<◌, ap, refl, ◌∙◌, arith, rules, w32, to_z, of_z}
use Rattle.std.proofs.lemmas.Int.{to_z-of_z}
use Rattle.nfg_syn.specs.Known.{text_at}
use Rattle.nfg_work.proofs.Tables.{count_facts, code_facts, take-set, take-same, asked_same, asked_again}
use Rattle.nfg_work.proofs.spelling.spell_synthetic.Goals as goal

pub spelling-init : goal.spelling-init
spelling-init g c = record {
  table = c.count-count.ensures.table;
  asked = record { kept = c.count-count.ensures.keeps; counts = c.count-count.ensures.counts; known = c.count-count.ensures.known };
  room = c.requires.room;
  spelled = λ cluster e. refl;
}

pub bounds-buffer-k : goal.bounds-buffer-k
bounds-buffer-k g c =
    let n_is : to_z w32 (of_z w32 c.args.n) ≡ c.args.n = to_z-of_z w32 c.args.n c.ranges.n in
    let is = count_facts (g.T.Synthetics.size c.args.table.now) (g.T.Synthetics.seen c.args.pass.now).known (g.T.Synthetics.seen c.args.pass.now).places _ c.args.n c.requires.known.0 c.count-count.result (g.met.T.Synthetics.knows c.args.table.now c.args.pass.now c.requires.table) n_is c.requires.known.1 c.count-count.ensures.count in
    omega (arith, is.within, c.spelling.invariant.room)

pub offset_bounds-buffer-k : goal.offset_bounds-buffer-k
offset_bounds-buffer-k g c =
    let n_is : to_z w32 (of_z w32 c.args.n) ≡ c.args.n = to_z-of_z w32 c.args.n c.ranges.n in
    let is = count_facts (g.T.Synthetics.size c.args.table.now) (g.T.Synthetics.seen c.args.pass.now).known (g.T.Synthetics.seen c.args.pass.now).places _ c.args.n c.requires.known.0 c.count-count.result (g.met.T.Synthetics.knows c.args.table.now c.args.pass.now c.requires.table) n_is c.requires.known.1 c.count-count.ensures.count in
    let below : c.spelling.k < 1024 = omega (arith, is.within) in
    search rules

pub spelling-preserved : goal.spelling-preserved
spelling-preserved g c =
    let n_is : to_z w32 (of_z w32 c.args.n) ≡ c.args.n = to_z-of_z w32 c.args.n c.ranges.n in
    let is = count_facts (g.T.Synthetics.size c.args.table.now) (g.T.Synthetics.seen c.args.pass.now).known (g.T.Synthetics.seen c.args.pass.now).places _ c.args.n c.requires.known.0 c.count-count.result (g.met.T.Synthetics.knows c.args.table.now c.args.pass.now c.requires.table) n_is c.requires.known.1 c.count-count.ensures.count in
    record {
      table = c.code.ensures.table;
      asked = asked_again _ _ _ c.spelling.invariant.asked c.code.ensures.keeps c.code.ensures.counts c.code.ensures.known;
      room = search rules;
      spelled = λ cluster e. take-set c.spelling.buffer cluster c.spelling.k c.code.result (omega (arith, is.within, c.spelling.invariant.room))
          (c.spelling.invariant.spelled cluster e)
          (code_facts (g.T.Synthetics.seen c.args.pass.now).known (g.T.Synthetics.seen c.spelling.pass).known _ cluster c.spelling.k c.code.result (asked_same _ _ c.spelling.invariant.asked) e c.code.ensures.code);
    }

pub returns-clause-some : goal.returns-clause-some
returns-clause-some g c =
    let n_is : to_z w32 (of_z w32 c.args.n) ≡ c.args.n = to_z-of_z w32 c.args.n c.ranges.n in
    let is = count_facts (g.T.Synthetics.size c.args.table.now) (g.T.Synthetics.seen c.args.pass.now).known (g.T.Synthetics.seen c.args.pass.now).places _ c.args.n c.requires.known.0 c.count-count.result (g.met.T.Synthetics.knows c.args.table.now c.args.pass.now c.requires.table) n_is c.requires.known.1 c.count-count.ensures.count in
    omega (arith, is.several)

pub returns-clause-inside : goal.returns-clause-inside
returns-clause-inside g c =
    let n_is : to_z w32 (of_z w32 c.args.n) ≡ c.args.n = to_z-of_z w32 c.args.n c.ranges.n in
    let is = count_facts (g.T.Synthetics.size c.args.table.now) (g.T.Synthetics.seen c.args.pass.now).known (g.T.Synthetics.seen c.args.pass.now).places _ c.args.n c.requires.known.0 c.count-count.result (g.met.T.Synthetics.knows c.args.table.now c.args.pass.now c.requires.table) n_is c.requires.known.1 c.count-count.ensures.count in
    is.within

pub returns-clause-spelled : goal.returns-clause-spelled
returns-clause-spelled g c = λ cluster e.
    let n_is : to_z w32 (of_z w32 c.args.n) ≡ c.args.n = to_z-of_z w32 c.args.n c.ranges.n in
    let is = count_facts (g.T.Synthetics.size c.args.table.now) (g.T.Synthetics.seen c.args.pass.now).known (g.T.Synthetics.seen c.args.pass.now).places _ c.args.n cluster c.count-count.result (g.met.T.Synthetics.knows c.args.table.now c.args.pass.now c.requires.table) n_is e c.count-count.ensures.count in
    take-same c.spelling.buffer cluster c.count-count.result c.spelling.k
    (c.spelling.invariant.spelled cluster (ap (text_at (g.T.Synthetics.seen c.args.pass.now).known) n_is ∙ e)) is.len c.spelling-test.false (search rules)
