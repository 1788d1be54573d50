use Rattle.std.proofs.Common.{sym, ◌∙◌}
use Rattle.nfg_work.proofs.Bodies.{big_body, little_body, unmarked_body}
use Rattle.nfg_work.proofs.body.body_of_utf16.Goals as goal

pub returns-then-starts_with : goal.returns-then-starts_with
returns-then-starts_with c = big_body c.args.bytes.now (sym c.starts_with.ensures.value ∙ c.if-starts_with.true)

pub returns-then-starts_with-2 : goal.returns-then-starts_with-2
returns-then-starts_with-2 c =
    little_body c.args.bytes.now (sym c.starts_with.ensures.value ∙ c.if-starts_with.false) (sym c.starts_with-2.ensures.value ∙ c.if-starts_with-2.true)

pub returns : goal.returns
returns c =
    unmarked_body c.args.bytes.now (sym c.starts_with.ensures.value ∙ c.if-starts_with.false) (sym c.starts_with-2.ensures.value ∙ c.if-starts_with-2.false)
