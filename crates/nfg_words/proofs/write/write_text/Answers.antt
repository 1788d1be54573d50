use Rattle.std.proofs.Common.{ap, arith}
use Rattle.nfg_words.specs.declared.view.View.{View}
use Rattle.nfg_words.proofs.Written.{written_more, writes_more}
use Rattle.nfg_words.proofs.write.write_text.Goals as goal

pub loop-k-preserved : goal.loop-k-preserved
loop-k-preserved g c =
    let inv = c.loop-k.invariant in
    let old = c.loop-k.holder.me.0 in
    let new = c.write_codes.new.holder.me.0 in
    let is = c.write_codes.ensures.written in
    record {
      table = c.write_codes.ensures.table;
      writes = writes_more c.args.holder.now.me.0 old new _ _ inv.writes is;
      written = written_more old new c.args.start c.loop-k.k _ _ c.args.codes.now (omega arith) c.pair_of.ensures is inv.written;
      made = let made = ap (λ (v : View). v.steps) is in let was = inv.made in omega arith;
      counted = let one = c.write_codes.ensures.counted in let was = inv.counted in omega arith;
    }
