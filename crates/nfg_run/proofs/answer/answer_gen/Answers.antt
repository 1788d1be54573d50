use Rattle.std.proofs.Common.{◌≡◌, ◌≢◌, None, [], length, slice_index_or, subst, ◌∙◌}
use Rattle.nfg_run.specs.CommandLine.{number_of, if_passes, is_seed}
use Rattle.nfg_run.proofs.Lines.{gen_of-none, gen_of-two, gen_by-none}
use Rattle.nfg_run.proofs.answer.answer_gen.Goals as goal

pub returns-then-len-ne2 : goal.returns-then-len-ne2
returns-then-len-ne2 g c =
    let other : length c.args.said.now.plain ≢ 2 = subst (λ v. v ≢ 2) c.len.ensures c.if-len-ne2.true in
    rw (gen_of-none c.args.said.now c.args.said.now.plain other) c.text_answer.ensures

pub returns-in_default : goal.returns-in_default
returns-in_default g c =
    let plain = c.args.said.now.plain in
    let two : length plain ≡ 2 = cc in
    let none : if_passes is_seed (number_of (slice_index_or plain 0 [])) ≡ None = cc in
    rw (gen_of-two c.args.said.now plain two ∙ gen_by-none c.args.said.now _ _ none) c.text_answer-in_default.ensures
