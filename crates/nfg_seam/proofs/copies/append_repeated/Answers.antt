use Rattle.std.proofs.Common.{◌≡◌, ◌++◌, ◌∙◌, ◌/◌, ◌%◌, ap, append_assoc}
use Rattle.std.proofs.lemmas.Result.{IfOk-weaker}
use Rattle.std.specs.List.{repeat}
use Rattle.nfg_seam.proofs.RepeatLists.{repeat-together}
use Rattle.nfg_seam.proofs.copies.append_repeated.Goals as goal

pub returns : goal.returns
returns c =
    let old = c.args.into.now.items in
    let run = c.args.run.now in
    let times = c.args.times in
    let rest = repeat (times % 64) run in
    let together : c.deref.result.now ≡ repeat 64 run =
    c.deref.ensures.value ∙ c.in_ok-append_each.ensures ∙ ap (λ l. l ++ repeat 64 run) c.new-together.ensures.items in
    IfOk-weaker c.append_each-4.result
    (λ _. c.append_each-4.new.into.items ≡ c.append_each-3.new.into.items ++ rest)
    (λ _. c.append_each-4.new.into.items ≡ old ++ repeat times run)
    (λ _ added. added ∙ ap (λ l. l ++ rest) (c.in_ok-append_each-2.ensures ∙ ap (λ l. old ++ repeat (times / 64) l) together)
    ∙ append_assoc old (repeat (times / 64) (repeat 64 run)) rest ∙ ap (λ l. old ++ l) (repeat-together times run))
    c.append_each-4.ensures
