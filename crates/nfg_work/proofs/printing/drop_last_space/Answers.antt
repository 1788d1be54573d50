use Rattle.std.proofs.Common.{◌-◌, take, ap, ◌∙◌, rules}
use Rattle.nfg_work.proofs.Joined.{line-cut, line-none}
use Rattle.nfg_work.proofs.printing.drop_last_space.Goals as goal

pub returns-then-len-had : goal.returns-then-len-had
returns-then-len-had c = λ start clusters had_is old_is. line-none start clusters c.args.output.now c.args.had had_is old_is (search rules)

pub returns : goal.returns
returns c = λ start clusters had_is old_is.
    c.truncate.ensures ∙ ap (λ n. take (n - 1) c.args.output.now) c.len-2.ensures
    ∙ line-cut start clusters c.args.output.now c.args.had had_is old_is (search rules)
