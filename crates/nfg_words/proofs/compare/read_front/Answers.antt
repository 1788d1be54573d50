use Rattle.std.proofs.Common.{◌+◌, ap, ◌∙◌, arith}
use Rattle.nfg_words.specs.Layout.{start_of, length_of}
use Rattle.nfg_words.specs.Steps.{codes_read}
use Rattle.nfg_words.specs.declared.view.View.{View}
use Rattle.nfg_words.proofs.Comparing.{still_says, reads_on, front_recorded, front_same, front_other}
use Rattle.nfg_words.proofs.compare.read_front.Goals as goal

pub read_pair-found-requires-clause-named : goal.read_pair-found-requires-clause-named
read_pair-found-requires-clause-named g c =
    let low = c.loop-k-test.true in
    (c.args.place, c.args.bucket, still_says c.args.holder.now.me.0 c.loop-k.holder.me.0 c.args.place c.args.bucket c.loop-k.invariant.reads c.requires.bucket, omega arith, omega arith)

pub loop-k-preserved : goal.loop-k-preserved
loop-k-preserved g c =
    let inv = c.loop-k.invariant in
    let old = c.loop-k.holder.me.0 in
    let new = c.read_pair-found.new.holder.me.0 in
    let read = c.read_pair-found.ensures.read in
    let grows = c.read_pair-found.ensures.codes in
    let start = start_of c.args.bucket in
    let is = read.1 ∙ ap (λ m. codes_read old (m + c.loop-k.k) read.0) c.start_of-start.ensures in
    let count = c.loop-k.k in
    let text = c.args.codes.now in
    let long = length_of c.args.bucket in
    record {
      table = c.read_pair-found.ensures.table;
      reads = reads_on c.args.holder.now.me.0 old new (start + count) read.0 inv.reads grows is;
      recorded = front_recorded old new start count read.0 text grows is inv.recorded;
      same = front_same old new start count read.0 text grows is long c.loop-k.same c.read_pair-found.result inv.same read.2;
      other = front_other old new start count read.0 text grows is long c.loop-k.same c.read_pair-found.result inv.other read.3;
      made = let made = ap (λ (v : View). v.steps) read.1 in let was = inv.made in omega arith;
      counted = let one = c.read_pair-found.ensures.counted in let was = inv.counted in omega arith;
    }
