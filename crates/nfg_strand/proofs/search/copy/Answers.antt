-- the front of what is left goes to the place
use Rattle.std.proofs.Common.{◌≡◌, ◌+◌, ◌-◌, ◌++◌, take, drop, length, ap, sym, ◌∙◌, arith, rules, length-drop, add_assoc}
use Rattle.std.proofs.lemmas.List.{drop-drop}
use Rattle.nfg_strand.specs.Strand.{graphemes}
use Rattle.nfg_strand.proofs.Ranges.{take-put_mid_front}
use Rattle.nfg_strand.proofs.search.copy.Goals as goal

pub loop-at-preserved : goal.loop-at-preserved
loop-at-preserved c =
    let count = c.copy_here-count.result in
    let source = drop c.args.start (graphemes c.args.strands.now) in
    let left = c.loop-at.invariant.left ∙ sym (drop-drop c.loop-at.at c.args.start (graphemes c.args.strands.now)) in
    let all = length-drop c.args.start (graphemes c.args.strands.now) in
    let rest = length-drop c.loop-at.at source in
    let tail = drop count (take (length c.loop-at.into - c.loop-at.at) (drop c.loop-at.at c.loop-at.into)) in
    let written : c.copy_here-count.new.into ≡ take count (drop c.loop-at.at source) ++ tail = rw (← left) (search rules) in
    record {
      high = search rules;
      left = c.advance.ensures ∙ ap (drop count) c.loop-at.invariant.left ∙ drop-drop count (c.args.start + c.loop-at.at) (graphemes c.args.strands.now)
          ∙ ap (λ n. drop n (graphemes c.args.strands.now)) (add_assoc c.args.start c.loop-at.at count);
      copied = take-put_mid_front c.loop-at.into c.copy_here-count.new.into source tail c.loop-at.at (length c.loop-at.into - c.loop-at.at) count c.loop-at.invariant.high (search rules) (omega arith) written c.loop-at.invariant.copied;
    }
