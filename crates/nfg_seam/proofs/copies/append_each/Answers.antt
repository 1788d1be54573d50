use Rattle.std.proofs.Common.{◌≡◌, ◌++◌, ◌∙◌, ◌+◌, suc, ap, arith, append_assoc}
use Rattle.std.specs.List.{repeat}
use Rattle.nfg_seam.proofs.RepeatLists.{repeat-push}
use Rattle.nfg_seam.proofs.copies.append_each.Goals as goal

pub copies-preserved : goal.copies-preserved
copies-preserved c =
    let old = c.args.into.now.items in
    let run = c.args.run.now in
    let copy = c.copies._copy in
    let one_more : suc copy ≡ copy + 1 = omega arith in
    c.in_ok-extend_from_slice.ensures.items ∙ ap (λ l. l ++ run) c.copies.invariant ∙ append_assoc old (repeat copy run) run
    ∙ ap (λ l. old ++ l) (repeat-push copy run ∙ ap (λ k. repeat k run) one_more)

pub returns : goal.returns
returns c =
    let all : c.copies._copy ≡ c.args.times = omega (arith, c.copies-test.false, c.copies.auto._copy-end) in
    c.copies.invariant ∙ ap (λ k. c.args.into.now.items ++ repeat k c.args.run.now) all
