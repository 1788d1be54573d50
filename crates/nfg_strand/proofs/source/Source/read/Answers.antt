-- the next block range goes to what is left of the slice
use Rattle.std.proofs.Common.{◌≡◌, ◌-◌, ◌≤◌, ◌++◌, [], length, drop, ap, sym, ◌∙◌, arith, rules, length-append, length-drop}
use Rattle.std.proofs.lemmas.List.{drop_all, take_rest}
use borrow.Rule.Slice.PartMut.{put_mid}
use Rattle.nfg_strand.proofs.Ranges.{drop-rest, put_mid-next}
use Rattle.nfg_strand.proofs.source.Source.read.Goals as goal

pub loop-count-preserved : goal.loop-count-preserved
loop-count-preserved c =
    let at = c.loop-count.count in
    let count = c.read-count-in-loop-count.result in
    let next = c.take_run-run.result.0 in
    let after = c.take_run-run.result.1 in
    let all = c.args.self.now in
    let ended : c.loop-count.self-inside.run ≡ [] = c.loop-count.invariant.over (search rules) in
    let reached : next ++ after ≡ drop at all =
    sym c.take_run-run.ensures.all ∙ c.share.ensures ∙ ap (λ xs. xs ++ c.loop-count.self-inside.rest) (sym ended) ∙ c.loop-count.invariant.left in
    let within : count ≤ length next = omega (arith, c.read-count-in-loop-count.ensures.count) in
    let same_len : length (put_mid at (length c.loop-count.into - at) c.loop-count.into c.read-count-in-loop-count.new.into) ≡ length c.loop-count.into = search rules in
    record {
      inside = omega (arith, c.loop-count.invariant.inside, ap length reached, length-append next after, length-drop at all);
      room = search rules;
      high = search rules;
      left = drop-rest all next after _ at count reached within c.read-count-in-loop-count.ensures.left;
      read = put_mid-next all next after c.args.into.now c.loop-count.into _ at count c.loop-count.invariant.inside within reached
          c.loop-count.invariant.read c.read-count-in-loop-count.ensures.read;
      over = λ more.
          let slice_len = ap length (take_rest c.loop-count.into at) ∙ length-drop at c.loop-count.into in
          c.read-count-in-loop-count.ensures.left ∙ drop_all count next (omega (arith, more, same_len, slice_len, c.read-count-in-loop-count.ensures.count));
    }
