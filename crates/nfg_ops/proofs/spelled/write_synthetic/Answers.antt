-- the text of the number is written code point by code point
use Rattle.std.proofs.Common.{rules, ◌≡◌, Some, w32, to_z, of_z, length, refl, subst, sym, arith}
use Rattle.nfg_syn.specs.Known.{text_at}
use Rattle.nfg_ops.proofs.Asked.{asked-none, asked-again}
use Rattle.nfg_ops.proofs.Writing.{written-more, known-length, count-of, code-of, same-text}
use Rattle.nfg_ops.proofs.spelled.write_synthetic.Goals as goal

pub loop-k-init : goal.loop-k-init
loop-k-init g c =
    let knows = g.met.T.Synthetics.knows c.args.table.now c.args.pass.now c.requires.table in
    let known = (g.T.Synthetics.seen c.args.pass.now).known in
    let same : to_z w32 (of_z w32 c.args.n) ≡ c.args.n = search rules in
    let number = to_z w32 (of_z w32 c.args.n) in
    let found : text_at known number ≡ Some c.requires.known.0 = subst (λ n. text_at known n ≡ Some c.requires.known.0) (sym same) c.requires.known.1 in
    let long : c.count-count.result ≡ length c.requires.known.0 = count-of (text_at known number) c.requires.known.0 c.count-count.result found c.count-count.ensures.count in
    let most = known-length _ _ _ knows c.args.n c.requires.known.0 c.requires.known.1 in
    record {
      table = c.count-count.ensures.table;
      asked = asked-again _ _ _ (asked-none (g.T.Synthetics.seen c.args.pass.now)) c.count-count.ensures.keeps c.count-count.ensures.counts c.count-count.ensures.known;
      room = refl;
      fits = omega (arith, long, most, c.requires.room);
      written = λ cluster e. (count-of (text_at known number) cluster c.count-count.result e c.count-count.ensures.count, refl);
    }

pub loop-k-preserved : goal.loop-k-preserved
loop-k-preserved g c =
    let known = (g.T.Synthetics.seen c.args.pass.now).known in
    let now = (g.T.Synthetics.seen c.loop-k.pass).known in
    let number = to_z w32 (of_z w32 c.args.n) in
    record {
      table = c.code.ensures.table;
      asked = asked-again _ _ _ c.loop-k.invariant.asked c.code.ensures.keeps c.code.ensures.counts c.code.ensures.known;
      room = search rules;
      fits = search rules;
      written = λ cluster e.
          let before = c.loop-k.invariant.written cluster e in
          let found = same-text known now c.loop-k.invariant.asked.known number cluster e in
          let is = code-of (text_at now number) cluster c.loop-k.k c.code.result found c.code.ensures.code in
          (before.0, written-more c.loop-k.into cluster c.loop-k.k c.code.result (omega (arith, c.loop-k-test.true, c.loop-k.invariant.fits)) before.1 is);
    }
