use Rattle.std.proofs.Common.{◌+◌, [], ap, ◌∙◌, arith}
use Rattle.nfg_words.specs.Layout.{start_of}
use Rattle.nfg_words.specs.Steps.{codes_read}
use Rattle.nfg_words.proofs.Comparing.{still_says, reads_on, front_recorded}
use Rattle.nfg_words.proofs.compare.read_words.Goals as goal

pub read_codes-requires-clause-named : goal.read_codes-requires-clause-named
read_codes-requires-clause-named g c =
    let low = c.loop-k-test.true in
    (c.args.place, c.args.bucket, still_says c.args.holder.now.me.0 c.loop-k.holder.me.0 c.args.place c.args.bucket c.loop-k.invariant.reads c.requires.bucket, omega arith, omega arith)

pub loop-k-preserved : goal.loop-k-preserved
loop-k-preserved g c =
    let inv = c.loop-k.invariant in
    let old = c.loop-k.holder.me.0 in
    let new = c.read_codes.new.holder.me.0 in
    let word = c.read_codes.result in
    let grows = c.read_codes.ensures.grows.codes in
    let start = start_of c.args.bucket in
    let count = c.loop-k.k in
    let is = c.read_codes.ensures.read ∙ ap (λ m. codes_read old (m + count) word) c.start_of-start.ensures in
    record {
      table = c.read_codes.ensures.table;
      reads = reads_on c.args.holder.now.me.0 old new (start + count) word inv.reads grows is;
      recorded = front_recorded old new start count word [] grows is inv.recorded;
      made = let made = c.read_codes.ensures.made in let was = inv.made in omega arith;
      counted = let one = c.read_codes.ensures.counted in let was = inv.counted in omega arith;
    }
