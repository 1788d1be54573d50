use Rattle.std.proofs.Common.{◌≡◌, Some, length, take, slice_get, ap, ◌∙◌, to_z, of_z, w32}
use Rattle.nfg_syn.specs.Known.{text_at}
use Rattle.nfg_syn.specs.SeenLaws.{Keeps-trans, SameCounts-trans}
use Rattle.nfg_syn.proofs.SpellingLemmas.{back, text_at-same, of_text, one_more, all_read, cut_back}
use Rattle.nfg_syn.proofs.spelling.append_synthetic.Goals as goal

pub returns-in-Err-clause-unchanged : goal.returns-in-Err-clause-unchanged
returns-in-Err-clause-unchanged g c =
    let known = c.requires.known in
    c.truncate.ensures ∙ cut_back c.args.into.now c.push.new.self c.loop-k.into (take c.loop-k.k known.0) c.len-start.result c.len-start.ensures c.in-Err.ensures.err (c.loop-k.invariant.added known.0 (ap (text_at (g.T.Synthetics.seen c.args.pass.now).known) (back c.args.n c.ranges.n.sfits) ∙ known.1))

pub loop-k-preserved : goal.loop-k-preserved
loop-k-preserved g c =
    let i = c.loop-k.invariant in
    record {
      table = c.code-code.ensures.table;
      keeps = Keeps-trans _ _ _ i.keeps c.code-code.ensures.keeps;
      counts = SameCounts-trans _ _ _ i.counts c.code-code.ensures.counts;
      known = λ k. c.code-code.ensures.known k ∙ i.known k;
      added = λ cluster is.
          let at = of_text (λ t. slice_get t c.loop-k.k ≡ Some c.code-code.result) _ cluster (text_at-same (g.T.Synthetics.seen c.args.pass.now).known (g.T.Synthetics.seen c.loop-k.pass).known i.known (to_z w32 (of_z w32 c.args.n)) ∙ is) c.code-code.ensures.code in
          one_more c.args.into.now cluster c.loop-k.into c.push.new.self c.loop-k.k c.code-code.result (i.added cluster is) at c.in-Ok.ensures.ok;
    }

pub returns-clause-added : goal.returns-clause-added
returns-clause-added g c cluster is =
    let at = ap (text_at (g.T.Synthetics.seen c.args.pass.now).known) (back c.args.n c.ranges.n.sfits) ∙ is in
    all_read c.args.into.now cluster c.loop-k.into c.loop-k.k c.count-count.result (of_text (λ t. c.count-count.result ≡ length t) _ cluster at c.count-count.ensures.count) c.loop-k-test.false (c.loop-k.invariant.added cluster at)
